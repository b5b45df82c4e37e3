-- Statement: the verifier's profiles: how much each follows.
use Rattle.std.specs.Prelude.{ℕ, ◌*◌, ◌==◌, if◌then◌else◌, Option, Some, None}
use Rattle.bpf_model.specs.declared.profile.Profile.{Profile}
use Rattle.bpf_model.specs.declared.profile.Profile.TheVariants.{One, Two}
use Rattle.bpf_model.specs.Machine.{frames}

abbrev pub number_of : Profile → ℕ
number_of One = 1
number_of Two = 2

-- The profile of a number: there are two.
abbrev pub profile_of : ℕ → Option Profile
profile_of n = if n == 1 then Some One else if n == 2 then Some Two else None

-- How many words of the stack a profile follows, from the first on: none, or all 64 of each frame.
abbrev pub followed_words : Profile → ℕ
followed_words One = 0
followed_words Two = 64 * frames
