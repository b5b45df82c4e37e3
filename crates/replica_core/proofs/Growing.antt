-- Acts that did what was due, and one more.
use Rattle.std.proofs.Common.{◌≡◌, ℕ, ◌+◌, List, [], ◌∷◌, ◌++◌, refl, sym, ap, subst, ◌∙◌, arith}
use Rattle.std.proofs.lemmas.List.{append_assoc}
use Rattle.pbft_model.specs.Acts.{Act, after}
use Rattle.pbft_model.specs.Core.{Core}
use Rattle.pbft_model.specs.Duties.{due}
use Rattle.pbft_model.specs.Rows.{Follows, Fulfils, all_done, all_leaves, all_outputs, done_of, outputs_of}
use Rattle.pbft_model.specs.Setup.{Setup, setup_of}
use Rattle.pbft_model.proofs.Rowed.{due_allowed}
use Rattle.replica_core.specs.Replicas.{KeptReplica}
use Rattle.replica_core.specs.Settling.{IsAfter, IsReached}

module _ (c : Setup) (me : ℕ) where
  -- two stretches are one
  pub joined : (acts more : List Act) (s t u : Core) → Follows c me s acts t → Follows c me t more u → Follows c me s (acts ++ more) u
  joined [] more s t u same rest = subst (λ (x : Core). Follows c me x more u) same rest
  joined (a ∷ acts) more s t u (does, leaves, rest) later = (does, leaves, joined acts more (after c s a) t u rest later)

  outputs_joined : (acts more : List Act) → all_outputs (acts ++ more) ≡ all_outputs acts ++ all_outputs more
  outputs_joined [] more = refl
  outputs_joined (a ∷ acts) more = ap (λ xs. outputs_of a ++ xs) (outputs_joined acts more) ∙ sym (append_assoc (outputs_of a) (all_outputs acts) (all_outputs more))

  done_joined : (acts more : List Act) → all_done c (acts ++ more) ≡ all_done c acts ++ all_done c more
  done_joined [] more = refl
  done_joined (a ∷ acts) more = ap (λ xs. done_of c a ++ xs) (done_joined acts more) ∙ sym (append_assoc (done_of c a) (all_done c acts) (all_done c more))

  leaves_joined : (acts more : List Act) → all_leaves (acts ++ more) ≡ all_leaves acts + all_leaves more
  leaves_joined [] more = omega arith
  leaves_joined (a ∷ acts) more = let rest = leaves_joined acts more in omega (arith, rest)

  -- what a history comes to when it continues
  pub continues : (acts : List Act) (s t : Core) → IsReached c me s → Follows c me s acts t → IsReached c me t
  continues [] s t at same = subst (IsReached c me) (sym same) at
  continues (a ∷ acts) s t at (does, leaves, rest) =
      continues acts (after c s a) t (record {
        signer = at.signer;
        acts = a ∷ at.acts;
        history = (at.history, due_allowed c me at.signer at.acts at.history a (subst (λ (x : Core). Fulfils c x (due c me x) a) (sym at.here) does));
        here = ap (λ (x : Core). after c x a) at.here;
      }) rest

pub no_acts : (k : KeptReplica) → IsAfter k [] k
no_acts k = record { config = refl; me = refl; follows = refl; outputs = sym (nothing k.outputs); done = sym (nothing k.done); leaves = omega arith } where
  nothing : {X : Type 0} (xs : List X) → xs ++ [] ≡ xs
  nothing [] = refl
  nothing (x ∷ xs) = ap (λ ys. x ∷ ys) (nothing xs)

-- one stretch after another
pub after_more : (k t u : KeptReplica) (acts more : List Act) → IsAfter k acts t → IsAfter t more u → IsAfter k (acts ++ more) u
after_more k t u acts more first next =
    let rest : Follows (setup_of k.config) k.me t.core more u.core = subst (λ x. Follows (setup_of x) k.me t.core more u.core) first.config (subst (λ x. Follows (setup_of t.config) x t.core more u.core) first.me next.follows) in
    let done : u.done ≡ t.done ++ all_done (setup_of k.config) more = next.done ∙ ap (λ x. t.done ++ all_done (setup_of x) more) first.config in
    let a = first.leaves in
    let b = next.leaves in
    let s = leaves_joined (setup_of k.config) k.me acts more in
    record {
      config = next.config ∙ first.config;
      me = next.me ∙ first.me;
      follows = joined (setup_of k.config) k.me acts more k.core t.core u.core first.follows rest;
      outputs = next.outputs ∙ ap (λ xs. xs ++ all_outputs more) first.outputs ∙ append_assoc k.outputs (all_outputs acts) (all_outputs more) ∙ ap (λ xs. k.outputs ++ xs) (sym (outputs_joined (setup_of k.config) k.me acts more));
      done = done ∙ ap (λ xs. xs ++ all_done (setup_of k.config) more) first.done ∙ append_assoc k.done (all_done (setup_of k.config) acts) (all_done (setup_of k.config) more) ∙ ap (λ xs. k.done ++ xs) (sym (done_joined (setup_of k.config) k.me acts more));
      leaves = omega (arith, a, b, s);
    }
