-- Statement: what the export that verifies answers, and what it leaves inside the handle.
use Rattle.std.specs.Prelude.{◌≡◌, ◌⊎◌, ℕ, List, Option, Some, None}
use Rattle.bpf_model.specs.Faults.{number_of as fault_number}
use Rattle.bpf_model.specs.Profiles.{profile_of}
use Rattle.bpf_model.specs.Verdict.{AcceptsUnder, RefusesUnder}
use Rattle.bpf_model.specs.declared.fault.VerifyFault.{VerifyFault}
use Rattle.bpf_model.specs.declared.profile.Profile.{Profile}
use Rattle.sandbox_c.specs.declared.held.Held.{Held}
use Rattle.sandbox_c.specs.declared.held.Held.TheVariants as held

-- The code was accepted under the profile, with this bound: the status is 0, and the procedure of these bytes is inside.
abbrev pub HasAccepted : Profile → List ℕ → ℕ → ℕ → Option Held → Type 0
HasAccepted profile bytes status bound inside =
    (status ≡ 0) × AcceptsUnder profile bytes bound
    × (inside ≡ Some (held.Procedure (record { bytes = bytes; bound = bound; profile = profile })))

-- The code was refused under the profile: the status is the number of its first fault, which is at this slot, and nothing is
-- inside.
abbrev pub HasRefused : Profile → List ℕ → ℕ → ℕ → Option Held → Type 0
HasRefused profile bytes status slot inside =
    (inside ≡ None) × ((fault : VerifyFault) × RefusesUnder profile bytes fault slot × (status ≡ fault_number fault))

-- What is answered for a profile of a number: that it accepts, that it refuses, that memory ran out, or that there is no such
-- profile.
abbrev pub IsVerdict : ℕ → List ℕ → ℕ → ℕ → ℕ → Option Held → Type 0
IsVerdict number bytes status bound slot inside =
    ((profile : Profile) × (profile_of number ≡ Some profile)
    × (HasAccepted profile bytes status bound inside ⊎ HasRefused profile bytes status slot inside))
    ⊎ ((status ≡ 21) × (inside ≡ None))
    ⊎ ((status ≡ 31) × (inside ≡ None) × (profile_of number ≡ None))
