-- Statement: what verdicts of two profiles are compared by: neither an exact bound nor an exact fault.
use Rattle.std.specs.Prelude.{ℕ, ◌≤◌, List}
use Rattle.bpf_model.specs.Verdict.{AcceptsUnder, RefusesUnder}
use Rattle.bpf_model.specs.declared.fault.VerifyFault.{VerifyFault}
use Rattle.bpf_model.specs.declared.profile.Profile.{Profile}

-- The bytes are accepted with a bound that isn't above this one.
abbrev pub AcceptsWithin : Profile → List ℕ → ℕ → Type 0
AcceptsWithin profile bytes most = (bound : ℕ) × AcceptsUnder profile bytes bound × (bound ≤ most)

-- The bytes are refused for some first fault.
abbrev pub IsRefusedUnder : Profile → List ℕ → Type 0
IsRefusedUnder profile bytes = (fault : VerifyFault) × (slot : ℕ) × RefusesUnder profile bytes fault slot
