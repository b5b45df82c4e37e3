-- Statement: the versions of a state's bytes.
use Rattle.std.specs.Prelude.{◌≡◌, ℕ, ◌==◌, if◌then◌else◌, List, [], ◌∷◌, Option, Some, None}
use Rattle.bpf_model.specs.declared.profile.Profile.{Profile}
use Rattle.bpf_model.specs.declared.profile.Profile.TheVariants.{One}
use Rattle.bpf_model.specs.Profiles.{number_of}
use Rattle.service_model.specs.declared.version.Version.{Version}
use Rattle.service_model.specs.declared.version.Version.TheVariants.{First, Second}

abbrev pub version_number : Version → ℕ
version_number First = 1
version_number Second = 2

-- The version of a number: there are two.
abbrev pub version_of : ℕ → Option Version
version_of n = if n == 1 then Some First else if n == 2 then Some Second else None

-- What stands of a procedure's profile before its code: nothing in version 1, its number in version 2.
abbrev pub encoded_profile : Version → Profile → List ℕ
encoded_profile First profile = []
encoded_profile Second profile = number_of profile ∷ []

-- The profiles that a version tells: the first one alone in version 1, where none is told; each in version 2.
abbrev pub IsTold : Version → Profile → Type 0
IsTold First profile = profile ≡ One
IsTold Second profile = Unit {0}
