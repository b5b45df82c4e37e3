-- Statement: the numbers by which the library tells what became of a call.
use Rattle.std.specs.Prelude.{ℕ, ◌+◌, Bool, true, false, Result, Ok, Err}
use Rattle.host_types.specs.Configuration as configurations
use Rattle.codec_fields.specs.Faults as codec
use Rattle.seal.specs.Faults as seals
use Rattle.seal.specs.declared.fault.SealFault.{SealFault}
use Rattle.seal.specs.declared.fault.SealFault.TheVariants as unopened
use Rattle.handles.specs.Halts as halts
use Rattle.handles.specs.Halt.{Halt}
use Rattle.client_session.specs.Faults as sessions
use Rattle.handles.specs.JoinFault.{JoinFault}
use Rattle.handles.specs.JoinFault.TheVariants as joins
use Rattle.handles.specs.StepFault.{StepFault}
use Rattle.handles.specs.StepFault.TheVariants as steps
use Rattle.member_calls.specs.declared.status.Status.{Status}
use Rattle.member_calls.specs.declared.status.Status.TheVariants.{Done, Memory, BufferTooShort, NoDraft, NoConfig, NoReplica, NoClient, NoVotes, NoRepeats, NoAudit, NoLedger, NoItem, NoKey, NoSeed, NoHeight, NoLeaf, NotListed, OtherKey, NoRow, NoEntry, NoState, NoTime, OperationTooLong, NoRequest, NoReply, Config, Codec, Unopened, Halted, Session}

abbrev pub number_of : Status → ℕ
number_of Done = 0
number_of Memory = 21
number_of BufferTooShort = 35
number_of NoDraft = 51
number_of NoConfig = 52
number_of NoReplica = 53
number_of NoClient = 54
number_of NoVotes = 68
number_of NoRepeats = 69
number_of NoAudit = 70
number_of NoLedger = 80
number_of NoItem = 81
number_of NoKey = 55
number_of NoSeed = 56
number_of NoHeight = 57
number_of NoLeaf = 58
number_of NotListed = 59
number_of OtherKey = 60
number_of NoRow = 61
number_of NoEntry = 62
number_of NoState = 63
number_of NoTime = 64
number_of OperationTooLong = 65
number_of NoRequest = 66
number_of NoReply = 67
number_of (Config fault) = 70 + configurations.number_of fault
number_of (Codec fault) = 110 + codec.number_of fault
number_of (Unopened fault) = 100 + seals.number_of fault
number_of (Halted halt) = 200 + halts.number_of halt
number_of (Session fault) = 300 + sessions.number_of fault

-- Why nobody joins, why bytes aren't opened, and why they give no row, as statuses.
abbrev pub of_joining : JoinFault → Status
of_joining joins.NotListed = NotListed
of_joining joins.OtherKey = OtherKey
of_joining joins.Memory = Memory

abbrev pub of_opening : SealFault → Status
of_opening unopened.Memory = Memory
of_opening (unopened.Codec fault) = Codec fault
of_opening fault = Unopened fault

abbrev pub of_step : StepFault → Status
of_step (steps.Unopened fault) = of_opening fault
of_step (steps.Halted halt) = Halted halt

abbrev pub of_taking : Result (Unit {0}) StepFault → Status
of_taking (Ok done) = Done
of_taking (Err fault) = of_step fault

abbrev pub of_timeout : Result (Unit {0}) Halt → Status
of_timeout (Ok done) = Done
of_timeout (Err halt) = Halted halt

abbrev pub of_hearing : Result (Unit {0}) SealFault → Status
of_hearing (Ok done) = Done
of_hearing (Err fault) = of_opening fault

-- Whether something is so, as a status, and as what is told of it: 1 or 0, or nothing.
abbrev pub bit : Bool → ℕ
bit true = 1
bit false = 0

abbrev pub of_asking : Result Bool SealFault → Status
of_asking (Ok so) = Done
of_asking (Err fault) = of_opening fault

abbrev pub told_of : Result Bool SealFault → ℕ → ℕ
told_of (Ok so) before = bit so
told_of (Err fault) before = before
