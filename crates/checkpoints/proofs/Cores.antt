-- The greatest stable number is the one that the protocol's core finds among its Checkpoints.
use Rattle.std.proofs.Common.{◌≡◌, ℕ, ◌<◌, ◌≤◌, Bool, true, false, cond, ◌&&◌, List, [], ◌∷◌, Option, Some, None, refl, sym, ap, subst, ◌∙◌, arith, inl, inr}
use Rattle.std.specs.Prelude.{nat_lt, IsSome}
use Rattle.std.proofs.lemmas.Bool.{and_from, cases_lt, and_parts, cond-true, cond-false, lt-ltb, ltb-true, ltb-false, false≢true}
use Rattle.host_types.specs.declared.Digest.{Digest}
use Rattle.ballots.specs.Certificates.{is_stable}
use Rattle.ballots.specs.Core.{Core, proof_of}
use Rattle.ballots.specs.Duties.{greatest_stable, is_stable_entry}
use Rattle.ballots.specs.Histories.{IsIn}
use Rattle.ballots.specs.Setup.{Setup, setup_of}
use Rattle.ballots.specs.Tables.{Table, at, checkpoint_key, entries_in}
use Rattle.ballots.specs.Words.{Signed, Checkpoint}
use Rattle.ballots.proofs.Calm.{at_in}
use Rattle.checkpoints.specs.Kept.{HasCheckpointsOf, IsGreatestStable, KeptCheckpoints, NoneStableAbove, proof_for, stable_at, stable_digest}
use Rattle.checkpoints.proofs.Proving.{above_mark}
use Rattle.checkpoints.proofs.Stable.{is_stable_one, some_signer, stable_is}

-- ---- the greatest of a list

and_false : (b : Bool) → (b && false) ≡ false
and_false true = refl
and_false false = refl

at_least : (c : Setup) (s : Core) (ms : List (Signed Checkpoint)) (m : Signed Checkpoint) → IsIn m ms → is_stable_entry c s m ≡ true → m.body.number.0 ≤ greatest_stable c s ms
at_least c s [] m is t = absurd is
at_least c s (x ∷ xs) m (inl same) t = split (nat_lt (greatest_stable c s xs) x.body.number.0) refl where
  passes : is_stable_entry c s x ≡ true
  passes = ap (is_stable_entry c s) (sym same) ∙ t

  number : m.body.number.0 ≡ x.body.number.0
  number = ap (λ (y : Signed Checkpoint). y.body.number.0) same

  split : (b : Bool) → nat_lt (greatest_stable c s xs) x.body.number.0 ≡ b → m.body.number.0 ≤ cond (is_stable_entry c s x && nat_lt (greatest_stable c s xs) x.body.number.0) x.body.number.0 (greatest_stable c s xs)
  split true e =
      let at = cond-true (is_stable_entry c s x && nat_lt (greatest_stable c s xs) x.body.number.0) x.body.number.0 (greatest_stable c s xs) (and_from _ _ passes e) in
      subst (λ (n : ℕ). m.body.number.0 ≤ n) (sym at) (omega (arith, number))
  split false e =
      let at = cond-false (is_stable_entry c s x && nat_lt (greatest_stable c s xs) x.body.number.0) x.body.number.0 (greatest_stable c s xs) (ap (λ (b : Bool). is_stable_entry c s x && b) e ∙ and_false (is_stable_entry c s x)) in
      let more = ltb-false (greatest_stable c s xs) x.body.number.0 e in
      subst (λ (n : ℕ). m.body.number.0 ≤ n) (sym at) (omega (arith, number, more))
at_least c s (x ∷ xs) m (inr later) t = step (at_least c s xs m later t) where
  step : m.body.number.0 ≤ greatest_stable c s xs → m.body.number.0 ≤ greatest_stable c s (x ∷ xs)
  step le = split (is_stable_entry c s x && nat_lt (greatest_stable c s xs) x.body.number.0) refl where
    split : (b : Bool) → (is_stable_entry c s x && nat_lt (greatest_stable c s xs) x.body.number.0) ≡ b → m.body.number.0 ≤ cond b x.body.number.0 (greatest_stable c s xs)
    split true e =
        let more = ltb-true (greatest_stable c s xs) x.body.number.0 ((and_parts (is_stable_entry c s x) (nat_lt (greatest_stable c s xs) x.body.number.0) e).1) in
        omega (arith, le, more)
    split false e = le

-- what is found is that of a Checkpoint, or nothing is
data Found (c : Setup) (s : Core) (ms : List (Signed Checkpoint)) : Type 0 where
  Nothing : greatest_stable c s ms ≡ 0 → Found c s ms
  One : (m : Signed Checkpoint) → is_stable_entry c s m ≡ true → greatest_stable c s ms ≡ m.body.number.0 → Found c s ms

found : (c : Setup) (s : Core) (ms : List (Signed Checkpoint)) → Found c s ms
found c s [] = Nothing refl
found c s (x ∷ xs) = split (is_stable_entry c s x && nat_lt (greatest_stable c s xs) x.body.number.0) refl (found c s xs) where
  split : (b : Bool) → (is_stable_entry c s x && nat_lt (greatest_stable c s xs) x.body.number.0) ≡ b → Found c s xs → Found c s (x ∷ xs)
  split true e rest =
      One x ((and_parts (is_stable_entry c s x) (nat_lt (greatest_stable c s xs) x.body.number.0) e).0)
      (cond-true (is_stable_entry c s x && nat_lt (greatest_stable c s xs) x.body.number.0) x.body.number.0 (greatest_stable c s xs) e)
  split false e (Nothing none) = Nothing (cond-false (is_stable_entry c s x && nat_lt (greatest_stable c s xs) x.body.number.0) x.body.number.0 (greatest_stable c s xs) e ∙ none)
  split false e (One m t is) = One m t (cond-false (is_stable_entry c s x && nat_lt (greatest_stable c s xs) x.body.number.0) x.body.number.0 (greatest_stable c s xs) e ∙ is)

-- ---- a core with these Checkpoints

-- a digest that is stable in the core is stable here
stable_here : (k : KeptCheckpoints) (s : Core) (number : ℕ) (d : Digest) → HasCheckpointsOf k s → s.executed < number → is_stable k.config s.checkpoints number d.0 ≡ true → stable_at k number ≡ Some d
stable_here k s number d h lt t =
    above_mark k number (omega (arith, h.low, lt)) ∙ stable_is k.config k.checkpoints number d (ap (λ (table : Table (Signed Checkpoint)). is_stable k.config table number d.0) h.same ∙ t)

-- what is stable here, some Checkpoint of the core names
entry_there : (k : KeptCheckpoints) (s : Core) (number : ℕ) (d : Digest) → HasCheckpointsOf k s → s.executed < number → stable_at k number ≡ Some d → number ≤ greatest_stable (setup_of k.config) s (entries_in s.checkpoints)
entry_there k s number d h lt e =
    let c = setup_of k.config in
    let stable : is_stable c.config s.checkpoints number d.0 ≡ true
    = ap (λ (table : Table (Signed Checkpoint)). is_stable c.config table number d.0) (sym h.same) ∙ is_stable_one c.config k.checkpoints number d (sym (above_mark k number (omega (arith, h.low, lt))) ∙ e) in
    let w = some_signer c.config (λ i. at s.checkpoints (checkpoint_key number i)) number d.0 stable in
    let m = w.2.message in
    let passes : is_stable_entry c s m ≡ true
    = and_from _ _ (lt-ltb s.executed m.body.number.0 (omega (arith, w.2.of_number, lt))) ((λ i. is_stable c.config s.checkpoints (w.2.of_number i) (w.2.of_digest i)) ∙ stable) in
    let le = at_least c s (entries_in s.checkpoints) m (at_in s.checkpoints (checkpoint_key number w.0) m w.2.is) passes in
    omega (arith, le, w.2.of_number)

some_digest : (o : Option Digest) → IsSome o → (d : Digest) × (o ≡ Some d)
some_digest None e = absurd (false≢true e)
some_digest (Some d) e = (d, refl)

no_some : {X : Type 0} {P : Type 0} (o : Option X) (x : X) → o ≡ None → o ≡ Some x → P
no_some None x e f = absurd cc
no_some (Some y) x e f = absurd cc

pub greatest_is : (k : KeptCheckpoints) (s : Core) (number : ℕ) → HasCheckpointsOf k s → IsGreatestStable k s.executed number → greatest_stable (setup_of k.config) s (entries_in s.checkpoints) ≡ number
greatest_is k s number h g = split (found (setup_of k.config) s (entries_in s.checkpoints)) where
  some : (d : Digest) × (stable_at k number ≡ Some d)
  some = some_digest (stable_at k number) g.stable

  up : number ≤ greatest_stable (setup_of k.config) s (entries_in s.checkpoints)
  up = entry_there k s number some.0 h g.above some.1

  split : Found (setup_of k.config) s (entries_in s.checkpoints) → greatest_stable (setup_of k.config) s (entries_in s.checkpoints) ≡ number
  split (Nothing none) = absurd (omega (arith, up, none, g.above))
  split (One m t is) =
      let parts = and_parts (nat_lt s.executed m.body.number.0) (is_stable k.config s.checkpoints m.body.number.0 m.body.digest.0) t in
      let more = ltb-true s.executed m.body.number.0 parts.0 in
      let seen = stable_here k s m.body.number.0 m.body.digest h more parts.1 in
      elim (cases_lt number m.body.number.0) [
        | inl lt ↦ no_some (stable_at k m.body.number.0) m.body.digest (g.greatest m.body.number.0 lt) seen
        | inr le ↦ omega (arith, up, is, le)
      ]

pub none_is : (k : KeptCheckpoints) (s : Core) → HasCheckpointsOf k s → NoneStableAbove k s.executed → greatest_stable (setup_of k.config) s (entries_in s.checkpoints) ≡ 0
none_is k s h none = split (found (setup_of k.config) s (entries_in s.checkpoints)) where
  split : Found (setup_of k.config) s (entries_in s.checkpoints) → greatest_stable (setup_of k.config) s (entries_in s.checkpoints) ≡ 0
  split (Nothing is) = is
  split (One m t is) =
      let parts = and_parts (nat_lt s.executed m.body.number.0) (is_stable k.config s.checkpoints m.body.number.0 m.body.digest.0) t in
      let more = ltb-true s.executed m.body.number.0 parts.0 in
      no_some (stable_at k m.body.number.0) m.body.digest (none m.body.number.0 more) (stable_here k s m.body.number.0 m.body.digest h more parts.1)

-- as the mark rises to a stable number, its proof is the core's
pub proof_is : (c : Setup) (s : Core) (number : ℕ) (d : Digest) → is_stable c.config s.checkpoints number d.0 ≡ true → proof_for c.config s.checkpoints number (stable_digest c.config s.checkpoints number) ≡ proof_of c s number d.0
proof_is c s number d e = ap (proof_for c.config s.checkpoints number) (stable_is c.config s.checkpoints number d e)
