-- Statement: procedures and replies of every state that the service reaches.
use Rattle.std.specs.Prelude.{◌≡◌, ℕ, List, All, IsSome, IsSomeAnd}
use Rattle.std.specs.FinMap as finite
use Rattle.host_types.specs.declared.config.ClientEntry.{ClientEntry}
use Rattle.host_types.specs.Configuration.{entry_of}
use Rattle.bpf_model.specs.Insn.{Insn}
use Rattle.bpf_model.specs.Verdict.{IsCode, AcceptsUnder, IsAccepted}
use Rattle.bpf_model.specs.Run.{IsSafe}
use Rattle.service_model.specs.TenantStates.{Procedure, TenantState, Service}

-- the verifier accepts the code under the profile
abbrev pub IsAcceptedProcedure : Procedure → Type 0
IsAcceptedProcedure procedure = (bound : ℕ) × AcceptsUnder procedure.profile procedure.code bound

-- Each procedure is accepted, and each last reply is one to a client of the tenant.
pub record IsSoundTenant (clients : List ClientEntry) (part : TenantState) : Type 0 where
  pub accepted : All IsAcceptedProcedure part.procedures
  pub own : (client : ℕ) → IsSome (finite.get part.last_replies client) → IsSomeAnd (entry_of clients client) (λ entry. entry.tenant.0 ≡ part.tenant)

abbrev pub IsSound : Service → Type 0
IsSound state = All (IsSoundTenant state.config.clients) state.tenants

-- A procedure that its profile accepts with a bound and that cannot go wrong: whatever it is called with, it never gets
-- stuck and ends within that many steps.
pub record CannotGoWrong (procedure : Procedure) : Type 0 where
  pub insns : List Insn
  pub bound : ℕ
  pub is_code : IsCode procedure.code insns
  pub accepted : IsAccepted procedure.profile insns bound
  pub safe : IsSafe insns bound

abbrev pub NoneGoesWrong : Service → Type 0
NoneGoesWrong state = All (λ part. All CannotGoWrong part.procedures) state.tenants
