-- Statement: what the exports answer that have a replica step, and that tell what it did.
use Rattle.std.specs.Prelude.{◌≡◌, ℕ, Bool, List, Option, Some, None, Result, Ok, Err, slice_get}
use Rattle.handles.specs.declared.held.Held.{Held}
use Rattle.handles.specs.declared.held.Held.TheVariants as held
use Rattle.handles.specs.Told.{AreTold}
use Rattle.handles.specs.Members.{MemberFacts, Takes, TimesOut, Waits}
use Rattle.handles.specs.StepFault.{StepFault}
use Rattle.pbft_codec.specs.Encoding.{encoding}
use Rattle.seal.specs.Opening.{CheckedMessage}
use Rattle.seal.specs.declared.fault.SealFault.{SealFault}
use Rattle.handles.specs.Facts.{RowFacts}
use Rattle.handles.specs.Halt.{Halt}
use Rattle.handles.specs.Dest.{Dest}
use Rattle.handles.specs.Dest.TheVariants as dests
use Rattle.handles.specs.Output.{Output}
use Rattle.member_calls.specs.Statuses.{number_of, of_asking, of_taking, of_timeout, told_of}
use Rattle.member_calls.specs.declared.status.Status.TheVariants.{NoReplica, NoRow, NoEntry}

-- A replica takes bytes, or a timeout: the status is that of the step's result.
abbrev pub TookIn : Option Held → List ℕ → ℕ → Option Held → Type 0
TookIn (Some (held.Member m)) bytes status after =
    (result : Result (Unit {0}) StepFault) × (t : MemberFacts) × Takes m bytes result t × (after ≡ Some (held.Member t))
    × (status ≡ number_of (of_taking result))
TookIn before bytes status after = (status ≡ number_of NoReplica) × (after ≡ before)

abbrev pub TimedOutIn : Option Held → ℕ → Option Held → Type 0
TimedOutIn (Some (held.Member m)) status after =
    (result : Result (Unit {0}) Halt) × (t : MemberFacts) × TimesOut m result t × (after ≡ Some (held.Member t))
    × (status ≡ number_of (of_timeout result))
TimedOutIn before status after = (status ≡ number_of NoReplica) × (after ≡ before)

-- Whether a replica waits for the request that bytes are, as 1 or 0.
abbrev pub WaitsAs : MemberFacts → List ℕ → ℕ → ℕ → ℕ → Type 0
WaitsAs m bytes status before after =
    (result : Result Bool SealFault) × Waits m bytes result
    × (status ≡ number_of (of_asking result)) × (after ≡ told_of result before)

abbrev pub WaitsIn : Option MemberFacts → List ℕ → ℕ → ℕ → ℕ → Type 0
WaitsIn None bytes status before after = (status ≡ number_of NoReplica) × (after ≡ before)
WaitsIn (Some m) bytes status before after = WaitsAs m bytes status before after

-- ---- what the last step gave

-- Whom a message is for, as two numbers: all other replicas, a replica, or a client, and its id.
abbrev pub kind_of : Dest → ℕ
kind_of dests.All = 0
kind_of (dests.Replica id) = 1
kind_of (dests.Client id) = 2

abbrev pub id_of : Dest → ℕ
id_of dests.All = 0
id_of (dests.Replica id) = id.0
id_of (dests.Client id) = id.0

-- A message is told: its bytes, and whom it is for.
abbrev pub MessageTold : Dest → CheckedMessage → ℕ → ℕ → ℕ → ℕ → List ℕ → List ℕ → Type 0
MessageTold to m status kind id told before after =
    AreTold (encoding m.message) status told before after × (kind ≡ kind_of to) × (id ≡ id_of to)

-- A message of the row is told.
abbrev pub OutputTold : Option Output → ℕ → ℕ → ℕ → ℕ → List ℕ → List ℕ → Type 0
OutputTold None status kind id told before after = (status ≡ number_of NoEntry) × (after ≡ before)
OutputTold (Some output) status kind id told before after = MessageTold output.to output.message status kind id told before after

abbrev pub OutputOf : Option RowFacts → ℕ → ℕ → ℕ → ℕ → ℕ → List ℕ → List ℕ → Type 0
OutputOf None index status kind id told before after = (status ≡ number_of NoRow) × (after ≡ before)
OutputOf (Some row) index status kind id told before after =
    OutputTold (slice_get row.outputs index) status kind id told before after

abbrev pub OutputIn : Option MemberFacts → ℕ → ℕ → ℕ → ℕ → ℕ → List ℕ → List ℕ → Type 0
OutputIn None index status kind id told before after = (status ≡ number_of NoReplica) × (after ≡ before)
OutputIn (Some m) index status kind id told before after = OutputOf m.row index status kind id told before after
