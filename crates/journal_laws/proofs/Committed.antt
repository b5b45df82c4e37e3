-- Own Commits of one view and number have one digest.
use Rattle.std.proofs.Common.{◌≡◌, ◌⊎◌, ℕ, ◌<◌, ◌≤◌, Bool, true, List, ◌∷◌, filter, refl, sym, ap, subst, ◌∙◌, arith, inl, inr}
use Rattle.std.specs.Prelude.{◌==◌, nat_lt, not}
use Rattle.std.proofs.lemmas.Bool.{true≢false, false≢true, and_parts, cases_lt, eqb-true, eq-eqb, lt-ltb, ltb-true, or_cases, or_left, or_right}
use Rattle.pbft_codec.specs.declared.body.Body.TheVariants as bodies
use Rattle.pbft_codec.specs.declared.body.fetch.Fetch.TheVariants as fetches
use Rattle.pbft_model.specs.Words.{Signed, Body, Commit, NewView}
use Rattle.pbft_model.specs.Setup.{Setup}
use Rattle.pbft_model.specs.Certificates.{Fields, of_commit}
use Rattle.pbft_model.specs.Core.{Core}
use Rattle.pbft_model.specs.Acts.{Act, Take, Timeout, Send, Relay, Enter, Rise, Execute, Install, after, said, acted, signed_once_more, recorded, is_awaited}
use Rattle.pbft_model.specs.Rules.{Allowed, MaySay}
use Rattle.pbft_model.specs.Duties.{among}
use Rattle.pbft_model.specs.Histories.{IsEarlier, IsHistory}
use Rattle.pbft_model.specs.Families.{Family}
use Rattle.pbft_model.proofs.Calm.{any_filter}
use Rattle.pbft_model.proofs.Events.{before, history_at, holds_on}
use Rattle.pbft_model.proofs.Stages.{Stage, awaited_above}
use Rattle.pbft_model.proofs.Voices.{Said, CommittedTo, core_at, core_then, two_said}

-- the number is below the marks, or a Commit was sent for it
abbrev pub Remembers : ℕ → Core → Type 0
Remembers n s = (n ≤ s.low) ⊎ (among s.committed_numbers n ≡ true)

awaited_active : (s : Core) (view : ℕ) → s.active ≡ true → is_awaited s view ≡ true → s.view < view
awaited_active s view active e = elim (or_cases _ _ e) [
  | inl h ↦ ltb-true s.view view h
  | inr h ↦ absurd (false≢true (subst (λ (b : Bool). not b ≡ true) active ((and_parts (view == s.view) (not s.active) h).1)))
]

-- what matters of a core stays
pub record Alike (s t : Core) : Type 0 where
  pub view : t.view ≡ s.view
  pub active : t.active ≡ s.active
  pub low : t.low ≡ s.low
  pub committed : t.committed_numbers ≡ s.committed_numbers

alike_recorded : (c : Setup) (s : Core) (m : Signed Body) (b : Body) → Alike s (recorded c s m b)
alike_recorded c s m (bodies.Request b) = record { view = refl; active = refl; low = refl; committed = refl }
alike_recorded c s m _ = record { view = refl; active = refl; low = refl; committed = refl }

remembers_above : (low n : ℕ) (ns : List ℕ) → low < n → among ns n ≡ true → among (filter (nat_lt low) ns) n ≡ true
remembers_above low n ns above e =
    any_filter (λ x. x == n) (nat_lt low) ns (λ x h. lt-ltb low x (subst (λ (k : ℕ). low < k) (sym (eqb-true x n h)) above)) e

-- of what is discarded up to a number, what is above it stays
remembers_more : (s t : Core) (n number : ℕ) → t.low ≡ number → t.committed_numbers ≡ filter (nat_lt number) s.committed_numbers → s.low ≤ number → Remembers n s → Remembers n t
remembers_more s t n number low is up (inl below) = inl (omega arith)
remembers_more s t n number low is up (inr e) = elim (cases_lt number n) [
  | inr below ↦ inl (omega arith)
  | inl above ↦ inr (subst (λ (ns : List ℕ). among ns n ≡ true) (sym is) (remembers_above number n s.committed_numbers above e))
]

module _ (c : Setup) (me u n : ℕ) where
  alike : (s t : Core) → Alike s t → Stage u (Remembers n) s → Stage u (Remembers n) t
  alike s t a (inl (view, active, inl below)) = let low = a.low in inl (a.view ∙ view, a.active ∙ active, inl (omega arith))
  alike s t a (inl (view, active, inr e)) = inl (a.view ∙ view, a.active ∙ active, inr (subst (λ (ns : List ℕ). among ns n ≡ true) (sym a.committed) e))
  alike s t a (inr h) = let view = a.view in inr (omega arith)

  moved : (s t : Core) → (s.active ≡ true → s.view < t.view) → (s.view ≤ t.view) → Stage u (Remembers n) s → Stage u (Remembers n) t
  moved s t up up' (inl w) = let same = w.0 in let more : s.view < t.view = up w.1 in inr (omega arith)
  moved s t up up' (inr h) = inr (omega arith)

  plain : (s : Core) (m : Signed Body) (b : Body) → Alike s (said c s m b) → Stage u (Remembers n) s → Stage u (Remembers n) (acted (signed_once_more (said c s m b) b))
  plain s m b a st = alike s (acted (signed_once_more (said c s m b) b)) (record { view = a.view; active = a.active; low = a.low; committed = a.committed }) st

  said_kept : (s : Core) (m : Signed Body) (b : Body) → MaySay c me s b → Stage u (Remembers n) s → Stage u (Remembers n) (acted (signed_once_more (said c s m b) b))
  said_kept s m (bodies.Request b) says st = absurd says
  said_kept s m (bodies.PrePrepare b) says st = plain s m (bodies.PrePrepare b) (record { view = refl; active = refl; low = refl; committed = refl }) st
  said_kept s m (bodies.Prepare b) says st = plain s m (bodies.Prepare b) (record { view = refl; active = refl; low = refl; committed = refl }) st
  said_kept s m (bodies.Commit b) says (inl (view, active, inl below)) = inl (view, active, inl below)
  said_kept s m (bodies.Commit b) says (inl (view, active, inr e)) = inl (view, active, inr (or_right (b.number.0 == n) (among s.committed_numbers n) e))
  said_kept s m (bodies.Commit b) says (inr h) = inr h
  said_kept s m (bodies.Reply b) says st = plain s m (bodies.Reply b) (record { view = refl; active = refl; low = refl; committed = refl }) st
  said_kept s m (bodies.Checkpoint b) says st = plain s m (bodies.Checkpoint b) (record { view = refl; active = refl; low = refl; committed = refl }) st
  said_kept s m (bodies.ViewChange b) says st = let higher = says.higher in moved s (acted (signed_once_more (said c s m (bodies.ViewChange b)) (bodies.ViewChange b))) (λ _. higher) (omega arith) st
  said_kept s m (bodies.NewView b) says st =
      let same : b.view.0 ≡ s.view = ap (λ (v : NewView). v.view.0) says.is in
      moved s (acted (signed_once_more (said c s m (bodies.NewView b)) (bodies.NewView b))) (λ active. absurd (true≢false (sym active ∙ says.changing))) (omega arith) st
  said_kept s m (bodies.Fetch (fetches.Request d)) says st = plain s m (bodies.Fetch (fetches.Request d)) (record { view = refl; active = refl; low = refl; committed = refl }) st
  said_kept s m (bodies.Fetch (fetches.State k)) says st = plain s m (bodies.Fetch (fetches.State k)) (record { view = refl; active = refl; low = refl; committed = refl }) st
  said_kept s m (bodies.Snapshot b) says st = plain s m (bodies.Snapshot b) (record { view = refl; active = refl; low = refl; committed = refl }) st

  discarded : (s t : Core) (number : ℕ) → t.view ≡ s.view → t.active ≡ s.active → t.low ≡ number → t.committed_numbers ≡ filter (nat_lt number) s.committed_numbers → s.low ≤ number
      → Stage u (Remembers n) s → Stage u (Remembers n) t
  discarded s t number view active low is up (inl (v, a, r)) = inl (view ∙ v, active ∙ a, remembers_more s t n number low is up r)
  discarded s t number view active low is up (inr h) = inr (omega arith)

  pub kept_after : (s : Core) (a : Act) → s.low ≤ s.executed → Allowed c me s a → Stage u (Remembers n) s → Stage u (Remembers n) (after c s a)
  kept_after s (Take m r) low ok st =
      let w = alike_recorded c s m m.body in
      alike s (after c s (Take m r)) (record { view = w.view; active = w.active; low = w.low; committed = w.committed }) st
  kept_after s Timeout low ok st = alike s (after c s Timeout) (record { view = refl; active = refl; low = refl; committed = refl }) st
  kept_after s (Send to m) low ok st = said_kept s m m.body ok.says st
  kept_after s (Relay to m) low ok st = alike s (after c s (Relay to m)) (record { view = refl; active = refl; low = refl; committed = refl }) st
  kept_after s (Enter m) low ok st = moved s (after c s (Enter m)) (λ active. awaited_active s m.body.view.0 active ok.awaited) (awaited_above s m.body.view.0 ok.awaited) st
  kept_after s (Rise number d) low ok st = let above = ok.above in discarded s (after c s (Rise number d)) number refl refl refl refl (omega arith) st
  kept_after s (Execute number d t o) low ok st = alike s (after c s (Execute number d t o)) (record { view = refl; active = refl; low = refl; committed = refl }) st
  kept_after s (Install number b t) low ok st = let above = ok.above in discarded s (after c s (Install number b t)) number refl refl refl refl (omega arith) st

-- ---- one digest

module _ (c : Setup) (family : Family) (IsLawful : ℕ → Type 0) (histories : (i : ℕ) → IsLawful i → IsHistory c i (family.signer i) (family.acts i)) (i : ℕ) (lawful : IsLawful i) where
  committed_then : (b : Commit) (w : Said c family i (bodies.Commit b)) → Stage b.view.0 (Remembers b.number.0) (core_at c family i (Send w.to w.message ∷ w.early))
  committed_then b w =
      let inside = w.says.inside in
      subst (λ (s : Core). Stage b.view.0 (Remembers b.number.0) s) (sym (core_then c family IsLawful histories i (bodies.Commit b) w))
      (inl (sym inside.view_is, inside.active, inr (or_left (b.number.0 == b.number.0) (among (core_at c family i w.early).committed_numbers b.number.0) (eq-eqb b.number.0 b.number.0 refl))))

  commits_new : (s : Core) (b : Commit) (number : ℕ) → MaySay c i s (bodies.Commit b) → number ≡ b.number.0 → Remembers number s → ⊥
  commits_new s b number says same (inl below) = let above = says.inside.above_low in absurd (omega arith)
  commits_new s b number says same (inr done) = true≢false (sym (subst (λ (k : ℕ). among s.committed_numbers k ≡ true) same done) ∙ says.once)

  -- no second Commit of the view and number is sent behind the first one
  commits_once : (b b' : Commit) (w : Said c family i (bodies.Commit b)) (w' : Said c family i (bodies.Commit b')) → b.view.0 ≡ b'.view.0 → b.number.0 ≡ b'.number.0
      → IsEarlier (Send w.to w.message ∷ w.early) w'.early → ⊥
  commits_once b b' w w' view number h =
      let at = before (Send w'.to w'.message) w'.early (family.acts i) w'.point in
      let st = holds_on c i (family.signer i) (Stage b.view.0 (Remembers b.number.0)) (kept_after c i b.view.0 b.number.0) (Send w.to w.message ∷ w.early) w'.early h
      (history_at c i (family.signer i) w'.early (family.acts i) at (histories i lawful)) (committed_then b w) in
      let here = w'.says.inside.view_is in
      elim st [
        | inl now ↦ commits_new (core_at c family i w'.early) b' b.number.0 w'.says number now.2
        | inr higher ↦ absurd (omega arith)
      ]

  pub committed_one : (x y : Fields) → CommittedTo c family IsLawful histories i x → CommittedTo c family IsLawful histories i y → x.view ≡ y.view → x.number ≡ y.number → x ≡ y
  committed_one x y (b, w, is) (b', w', is') view number = elim (two_said c family IsLawful histories i (bodies.Commit b) (bodies.Commit b') w w') [
    | inl same ↦ let same_body : b ≡ b' = cc in sym is ∙ ap of_commit same_body ∙ is'
    | inr (inl h) ↦ absurd (commits_once b b' w w' views numbers h)
    | inr (inr h) ↦ absurd (commits_once b' b w' w (sym views) (sym numbers) h)
  ] where
    views : b.view.0 ≡ b'.view.0
    views = ap (λ (f : Fields). f.view) is ∙ view ∙ ap (λ (f : Fields). f.view) (sym is')

    numbers : b.number.0 ≡ b'.number.0
    numbers = ap (λ (f : Fields). f.number) is ∙ number ∙ ap (λ (f : Fields). f.number) (sym is')
