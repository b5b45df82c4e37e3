-- Statement: messages that are heard one after another: which of them prove that a replica contradicts itself.
use Rattle.std.specs.Prelude.{◌≡◌, ◌⊎◌, ◌<◌, ℕ, ◌++◌, List, [], ◌∷◌, Option, Some, None, Result, Ok, Err, slice_get}
use Rattle.host_types.specs.Configuration.{Configuration}
use Rattle.conflicts.specs.Claims.{Contradict, claim_of}
use Rattle.conflicts.specs.declared.claim.Claim.{Claim}
use Rattle.seal.specs.Opening.{CheckedMessage, opening}
use Rattle.seal.specs.declared.fault.SealFault.{SealFault}
use Rattle.seal.specs.declared.fault.SealFault.TheVariants as seals

-- The message at this place claims something that contradicts this.
pub record Blames (heard : List (Option Claim)) (claim : Claim) (place : ℕ) : Type 0 where
  pub other : Claim
  pub there : slice_get heard place ≡ Some (Some other)
  pub contradict : Contradict other claim

-- What is told of a message that claims this, or nothing: the first place that it contradicts, or that there is none.
abbrev pub Tells : List (Option Claim) → Option Claim → Option ℕ → Type 0
Tells heard None told = told ≡ None
Tells heard (Some claim) None = (i : ℕ) → Blames heard claim i → ⊥
Tells heard (Some claim) (Some place) = Blames heard claim place × ((i : ℕ) → i < place → Blames heard claim i → ⊥)

-- What bytes make of what was heard: the claim of the message that they are, opened under a configuration, stands behind the others.
-- Bytes that aren't opened change nothing.
abbrev pub HearsClaim : Configuration → List (Option Claim) → List ℕ → Result (Option ℕ) SealFault → List (Option Claim) → Type 0
HearsClaim c heard bytes (Ok told) after =
    (m : CheckedMessage) × (opening c bytes ≡ Ok m) × Tells heard (claim_of m.message) told × (after ≡ heard ++ claim_of m.message ∷ [])
HearsClaim c heard bytes (Err fault) after = ((fault ≡ seals.Memory) ⊎ (opening c bytes ≡ Err fault)) × (after ≡ heard)
