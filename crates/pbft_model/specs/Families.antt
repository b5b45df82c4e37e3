-- Statement: families of histories, and what it is for nobody to forge.
use Rattle.std.specs.Prelude.{◌≡◌, ℕ, ◌<◌, ◌≤◌, Bool, true, false, List, ◌∷◌}
use Rattle.pbft_model.specs.Words.{SigningState, Signed, Body, Replica, Part, part_of, messages_in}
use Rattle.pbft_codec.specs.declared.body.Body.TheVariants as bodies
use Rattle.pbft_model.specs.Sequential.{Service, Outcome}
use Rattle.pbft_model.specs.Setup.{Setup, replicas, count}
use Rattle.pbft_model.specs.Core.{is_committed}
use Rattle.pbft_model.specs.Acts.{Act, Send, Enter, Execute, Install}
use Rattle.pbft_model.specs.Histories.{core_after, IsHistory, IsIn, IsEarlier, HasSigned, HasTaken}

-- Who is faulty, and what each replica did.
pub record Family : Type 0 where
  pub faulty : ℕ → Bool
  pub signer : ℕ → SigningState
  pub acts : ℕ → List Act

abbrev pub IsCorrect : Setup → (ℕ → Bool) → ℕ → Type 0
IsCorrect c faulty i = (i < replicas c.config) × (faulty i ≡ false)

-- The part, if it names a correct replica as its signer, was signed by it.
abbrev pub IsReal : Setup → Family → Part → Type 0
IsReal c family p = p.role ≡ Replica → IsCorrect c family.faulty p.id → HasSigned p (family.acts p.id)

-- At most f are faulty, the others' histories are histories, and nobody forges: each part of what a correct replica
-- took is real.
pub record IsUnforged (c : Setup) (family : Family) : Type 0 where
  pub few : count family.faulty (replicas c.config) ≤ c.config.f
  pub histories : (i : ℕ) → IsCorrect c family.faulty i → IsHistory c i (family.signer i) (family.acts i)
  pub real : (i : ℕ) → IsCorrect c family.faulty i → (m p : Signed Body) → HasTaken m (family.acts i) → IsIn p (messages_in m)
      → IsReal c family (part_of p)

-- A replica holds the digest committed-local at some point of its history.
pub record HasCommitted (c : Setup) (family : Family) (i view number : ℕ) (digest : List ℕ) : Type 0 where
  pub correct : IsCorrect c family.faulty i
  pub acts : List Act
  pub earlier : IsEarlier acts (family.acts i)
  pub committed : is_committed c (core_after c (family.signer i) acts) (record { view = view; number = number; digest = digest }) ≡ true

-- Agreement by view: no two digests are committed at one number, whatever their views.
abbrev pub AgreesByView : Setup → Family → Type 0
AgreesByView c family =
    (i j view view' number : ℕ) (digest digest' : List ℕ) → HasCommitted c family i view number digest
    → HasCommitted c family j view' number digest' → digest ≡ digest'

-- What is neither a ViewChange nor a NewView.
abbrev pub IsSteadyBody : Body → Type 0
IsSteadyBody (bodies.ViewChange b) = ⊥
IsSteadyBody (bodies.NewView b) = ⊥
IsSteadyBody _ = Unit {0}

-- An act that changes no view and installs nothing.
abbrev pub IsSteady : Act → Type 0
IsSteady (Send to m) = IsSteadyBody m.body
IsSteady (Enter m) = ⊥
IsSteady (Install number bytes service) = ⊥
IsSteady _ = Unit {0}

-- A replica executed the number with the digest.
pub record HasExecuted (c : Setup) (family : Family) (i number : ℕ) (digest : List ℕ) : Type 0 where
  pub correct : IsCorrect c family.faulty i
  pub service : Service
  pub outcome : Outcome
  pub early : List Act
  pub point : IsEarlier (Execute number digest service outcome ∷ early) (family.acts i)

-- No two correct replicas execute different digests at one number.
abbrev pub ExecutesAlike : Setup → Family → Type 0
ExecutesAlike c family =
    (i j number : ℕ) (digest digest' : List ℕ) → HasExecuted c family i number digest → HasExecuted c family j number digest' → digest ≡ digest'
