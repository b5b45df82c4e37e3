-- Statement: what the export answers that tells who signed bytes.
use Rattle.std.specs.Prelude.{◌≡◌, ◌⊎◌, ℕ, List, Option, Some, None, Result, Ok, Err}
use Rattle.host_types.specs.Configuration.{Configuration}
use Rattle.pbft_codec.specs.declared.signed.Role.{Role}
use Rattle.pbft_codec.specs.declared.signed.Role.TheVariants as roles
use Rattle.seal.specs.Opening.{CheckedMessage, opening}
use Rattle.seal.specs.declared.fault.SealFault.{SealFault}
use Rattle.member_calls.specs.Statuses.{number_of, of_opening}
use Rattle.member_calls.specs.declared.opening.SignedBy.{SignedBy}
use Rattle.member_calls.specs.declared.status.Status.TheVariants.{NoConfig, Memory}

abbrev pub role_number : Role → ℕ
role_number roles.Replica = 1
role_number roles.Client = 2

-- What opening bytes gives is told: the signer of the whole message, or the fault.
abbrev pub OpenedAs : Result CheckedMessage SealFault → ℕ → SignedBy → SignedBy → Type 0
OpenedAs (Ok m) status before after = (status ≡ 0) × (after.role ≡ role_number m.message.role) × (after.id ≡ m.message.id)
OpenedAs (Err fault) status before after = (status ≡ number_of (of_opening fault)) × (after ≡ before)

abbrev pub OpenedIn : Option Configuration → List ℕ → ℕ → SignedBy → SignedBy → Type 0
OpenedIn None bytes status before after = (status ≡ number_of NoConfig) × (after ≡ before)
OpenedIn (Some c) bytes status before after =
    ((status ≡ number_of Memory) × (after ≡ before)) ⊎ OpenedAs (opening c bytes) status before after
