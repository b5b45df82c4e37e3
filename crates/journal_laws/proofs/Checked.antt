-- Own Checkpoints of one number are one.
use Rattle.std.proofs.Common.{◌≡◌, ◌⊎◌, ℕ, ◌<◌, ◌≤◌, false, ◌∷◌, refl, sym, subst, ◌∙◌, arith, inl, inr}
use Rattle.std.proofs.lemmas.Bool.{true≢false}
use Rattle.pbft_codec.specs.declared.body.Body.TheVariants as bodies
use Rattle.pbft_model.specs.Words.{Checkpoint}
use Rattle.pbft_model.specs.Setup.{Setup}
use Rattle.pbft_model.specs.Core.{Core}
use Rattle.pbft_model.specs.Acts.{Act, Take, Timeout, Send, Relay, Enter, Rise, Execute, Install, after, said, recorded, left_if_above}
use Rattle.pbft_model.specs.Rules.{Allowed}
use Rattle.pbft_model.specs.Histories.{IsEarlier, IsHistory}
use Rattle.pbft_model.specs.Families.{Family}
use Rattle.pbft_model.proofs.Events.{before, history_at, holds_on}
use Rattle.pbft_model.proofs.Origins.{Keeps, recorded_keeps, said_keeps, left_keeps}
use Rattle.pbft_model.proofs.Voices.{Said, core_at, core_then, two_said}

-- the number was executed last and owes no Checkpoint, or a later one was executed
abbrev pub IsPast : ℕ → Core → Type 0
IsPast n s = ((s.executed ≡ n) × (s.checkpoint_due ≡ false)) ⊎ (n < s.executed)

past_kept : (n : ℕ) (s t : Core) → Keeps s t → IsPast n s → IsPast n t
past_kept n s t k (inl (number, due)) = elim k.checkpoint [
  | inl none ↦ inl (k.number ∙ number, none)
  | inr same ↦ inl (k.number ∙ number, same ∙ due)
]
past_kept n s t k (inr later) = let number = k.number in inr (omega arith)

past_higher : (n : ℕ) (s t : Core) → s.executed < t.executed → IsPast n s → IsPast n t
past_higher n s t up (inl (number, due)) = inr (omega arith)
past_higher n s t up (inr later) = inr (omega arith)

past_after : (c : Setup) (me n : ℕ) (s : Core) (a : Act) → s.low ≤ s.executed → Allowed c me s a → IsPast n s → IsPast n (after c s a)
past_after c me n s (Take m r) low ok p = past_kept n s (recorded c s m m.body) (recorded_keeps c s m m.body) p
past_after c me n s Timeout low ok p = p
past_after c me n s (Send to m) low ok p = past_kept n s (said c s m m.body) (said_keeps c s m m.body) p
past_after c me n s (Relay to m) low ok p = p
past_after c me n s (Enter m) low ok p = past_kept n s (left_if_above c s m.body.view.0) (left_keeps c s m.body.view.0) p
past_after c me n s (Rise number d) low ok p = p
past_after c me n s (Execute number d t o) low ok p = let next = ok.next in past_higher n s (after c s (Execute number d t o)) (omega arith) p
past_after c me n s (Install number b t) low ok p = let above = ok.above in past_higher n s (after c s (Install number b t)) above p

module _ (c : Setup) (family : Family) (IsLawful : ℕ → Type 0) (histories : (i : ℕ) → IsLawful i → IsHistory c i (family.signer i) (family.acts i)) (i : ℕ) (lawful : IsLawful i) where
  past_then : (b : Checkpoint) (w : Said c family i (bodies.Checkpoint b)) → IsPast b.number.0 (core_at c family i (Send w.to w.message ∷ w.early))
  past_then b w = subst (λ (s : Core). IsPast b.number.0 s) (sym (core_then c family IsLawful histories i (bodies.Checkpoint b) w)) (inl (sym w.says.number_is, refl))

  checks_once : (b b' : Checkpoint) (w : Said c family i (bodies.Checkpoint b)) (w' : Said c family i (bodies.Checkpoint b')) → b.number.0 ≡ b'.number.0 → IsEarlier (Send w.to w.message ∷ w.early) w'.early → ⊥
  checks_once b b' w w' number h =
      let at = before (Send w'.to w'.message) w'.early (family.acts i) w'.point in
      let past = holds_on c i (family.signer i) (IsPast b.number.0) (past_after c i b.number.0) (Send w.to w.message ∷ w.early) w'.early h
      (history_at c i (family.signer i) w'.early (family.acts i) at (histories i lawful)) (past_then b w) in
      let here = w'.says.number_is in
      elim past [
        | inl (same, none) ↦ true≢false (sym w'.says.due ∙ none)
        | inr later ↦ absurd (omega arith)
      ]

  pub checked_one : (b b' : Checkpoint) → Said c family i (bodies.Checkpoint b) → Said c family i (bodies.Checkpoint b') → b.number.0 ≡ b'.number.0 → b ≡ b'
  checked_one b b' w w' number = elim (two_said c family IsLawful histories i (bodies.Checkpoint b) (bodies.Checkpoint b') w w') [
    | inl same ↦ cc
    | inr (inl h) ↦ absurd (checks_once b b' w w' number h)
    | inr (inr h) ↦ absurd (checks_once b' b w' w (sym number) h)
  ]
