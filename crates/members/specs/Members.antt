-- Statement: a replica that is given bytes: what they make of it, and the row that it keeps of its last step.
use Rattle.std.specs.Prelude.{◌≡◌, ◌⊎◌, ℕ, Bool, true, false, nat_lt, List, Option, Some, None, Result, Ok, Err}
use Rattle.host_types.specs.Configuration.{Configuration}
use Rattle.lms_tree.specs.SigningState.{SigningState}
use Rattle.host_types.specs.declared.request.Reply.{Reply}
use Rattle.pbft_codec.specs.declared.body.Body.{Body}
use Rattle.pbft_codec.specs.declared.body.Body.TheVariants as bodies
use Rattle.pbft_codec.specs.declared.signed.Signed.{Signed}
use Rattle.pbft_model.specs.Core.{Core}
use Rattle.service_model.specs.TenantStates.{Service, last_reply_of}
use Rattle.seal.specs.Opening.{CheckedMessage, opening}
use Rattle.seal.specs.declared.fault.SealFault.{SealFault}
use Rattle.seal.specs.declared.fault.SealFault.TheVariants as seals
use Rattle.replica_core.specs.Facts.{RowFacts}
use Rattle.replica_core.specs.Steps.{Goes, ReplicaFacts, Stops, first_with}
use Rattle.replica_core.specs.declared.halt.Halt.{Halt}
use Rattle.replica_core.specs.declared.row.Input.{Input}
use Rattle.replica_core.specs.declared.row.Input.TheVariants as inputs
use Rattle.members.specs.declared.fault.StepFault.{StepFault}
use Rattle.members.specs.declared.fault.StepFault.TheVariants.{Unopened, Halted}

-- What a contract sees of a member.
pub record MemberFacts : Type 0 where
  pub replica : ReplicaFacts
  -- what its last step gave; none before the first one and once it has halted
  pub row : Option RowFacts

-- a member before its first message
abbrev pub first_member : Configuration → ℕ → SigningState → MemberFacts
first_member c me signer = record { replica = first_with c me signer; row = None }

-- A time is above that of this last reply, or there is none.
abbrev pub is_after : ℕ → Option Reply → Bool
is_after time None = true
is_after time (Some reply) = nat_lt reply.time time

-- The message is a request that this service hasn't answered.
abbrev pub is_unanswered : Service → Signed Body → Body → Bool
is_unanswered service m (bodies.Request b) = is_after b.time (last_reply_of service m.id)
is_unanswered service m _ = false

-- whether a replica waits for it: none does that has halted
abbrev pub is_waited_for : Option Core → Signed Body → Bool
is_waited_for None m = false
is_waited_for (Some core) m = is_unanswered core.service m m.body

-- Whether a member waits for the request that bytes are.
abbrev pub Waits : MemberFacts → List ℕ → Result Bool SealFault → Type 0
Waits m bytes (Ok waits) = (message : CheckedMessage) × (opening m.replica.config bytes ≡ Ok message) × (waits ≡ is_waited_for m.replica.core message.message)
Waits m bytes (Err fault) = (fault ≡ seals.Memory) ⊎ (opening m.replica.config bytes ≡ Err fault)

-- The replica continues, and its row is kept.
pub record Continues (m : MemberFacts) (input : Input) (t : MemberFacts) : Type 0 where
  pub row : RowFacts
  pub goes : Goes m.replica input row t.replica
  pub kept : t.row ≡ Some row

-- The replica halts, or had halted before; no row is kept.
pub record Ends (m : MemberFacts) (input : Input) (halt : Halt) (t : MemberFacts) : Type 0 where
  pub stops : Stops m.replica input halt t.replica
  pub kept : t.row ≡ None

-- What a timeout makes of it.
abbrev pub TimesOut : MemberFacts → Result (Unit {0}) Halt → MemberFacts → Type 0
TimesOut m (Ok done) t = Continues m inputs.Timeout t
TimesOut m (Err halt) t = Ends m inputs.Timeout halt t

-- What bytes make of it: the message that they are, opened under its configuration, is taken. Bytes that aren't opened
-- change nothing.
abbrev pub Takes : MemberFacts → List ℕ → Result (Unit {0}) StepFault → MemberFacts → Type 0
Takes m bytes (Ok done) t =
    (message : CheckedMessage) × (opening m.replica.config bytes ≡ Ok message) × Continues m (inputs.Message message) t
Takes m bytes (Err (Unopened fault)) t =
    ((fault ≡ seals.Memory) ⊎ (opening m.replica.config bytes ≡ Err fault)) × (t ≡ m)
Takes m bytes (Err (Halted halt)) t =
    (message : CheckedMessage) × (opening m.replica.config bytes ≡ Ok message) × Ends m (inputs.Message message) halt t
