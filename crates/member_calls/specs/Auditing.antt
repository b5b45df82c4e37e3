-- Statement: what the exports answer that tell whom messages blame.
use Rattle.std.specs.Prelude.{◌≡◌, ℕ, List, length, Option, Some, None, Result, Ok, Err}
use Rattle.host_types.specs.Configuration.{Configuration}
use Rattle.handles.specs.Claim.{Claim}
use Rattle.handles.specs.Blaming.{HearsClaim}
use Rattle.handles.specs.declared.held.Held.{Held}
use Rattle.handles.specs.declared.held.Held.TheVariants as held
use Rattle.seal.specs.declared.fault.SealFault.{SealFault}
use Rattle.member_calls.specs.Statuses.{number_of, of_opening}
use Rattle.member_calls.specs.declared.auditing.Heard.{Heard}
use Rattle.member_calls.specs.declared.status.Status.{Status}
use Rattle.member_calls.specs.declared.status.Status.TheVariants.{Done, NoConfig, NoAudit}

-- What is told of a message at this place that contradicts the one at the other first.
abbrev pub heard_as : ℕ → Option ℕ → Heard
heard_as place None = record { place = place; first = 0; blames = 0 }
heard_as place (Some first) = record { place = place; first = first; blames = 1 }

abbrev of_hearing : Result (Option ℕ) SealFault → Status
of_hearing (Ok told) = Done
of_hearing (Err fault) = of_opening fault

abbrev heard_of : Result (Option ℕ) SealFault → ℕ → Heard → Heard
heard_of (Ok told) place before = heard_as place told
heard_of (Err fault) place before = before

-- An audit hears bytes under a configuration.
abbrev pub AuditedUnder : Configuration → Option Held → List ℕ → ℕ → Heard → Heard → Option Held → Type 0
AuditedUnder c (Some (held.Audit heard)) bytes status before after left =
    (result : Result (Option ℕ) SealFault) × (t : List (Option Claim)) × HearsClaim c heard bytes result t × (left ≡ Some (held.Audit t))
    × (status ≡ number_of (of_hearing result)) × (after ≡ heard_of result (length heard) before)
AuditedUnder c inside bytes status before after left = (status ≡ number_of NoAudit) × (after ≡ before) × (left ≡ inside)

abbrev pub AuditedIn : Option Configuration → Option Held → List ℕ → ℕ → Heard → Heard → Option Held → Type 0
AuditedIn None inside bytes status before after left = (status ≡ number_of NoConfig) × (after ≡ before) × (left ≡ inside)
AuditedIn (Some c) inside bytes status before after left = AuditedUnder c inside bytes status before after left
