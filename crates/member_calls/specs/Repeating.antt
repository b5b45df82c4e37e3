-- Statement: what the exports answer that keep what a replica sends again.
use Rattle.std.specs.Prelude.{◌≡◌, ◌⊎◌, ℕ, Bool, true, false, List, Option, Some, None, slice_get}
use Rattle.pbft_codec.specs.declared.body.Body.{Body}
use Rattle.pbft_codec.specs.declared.body.Body.TheVariants as bodies
use Rattle.seal.specs.Opening.{CheckedMessage}
use Rattle.handles.specs.Repeating.{RepeatsFacts, moved, noted, taken}
use Rattle.handles.specs.declared.held.Held.{Held}
use Rattle.handles.specs.declared.held.Held.TheVariants as held
use Rattle.handles.specs.Members.{MemberFacts}
use Rattle.handles.specs.Facts.{RowFacts}
use Rattle.handles.specs.Dest.{Dest}
use Rattle.handles.specs.Dest.TheVariants as dests
use Rattle.handles.specs.Input.{Input}
use Rattle.handles.specs.Input.TheVariants as inputs
use Rattle.handles.specs.Output.{Output}
use Rattle.member_calls.specs.Statuses.{number_of}
use Rattle.member_calls.specs.Stepping.{MessageTold}
use Rattle.member_calls.specs.declared.status.Status.TheVariants.{Done, Memory, NoRepeats, NoReplica, NoRow, NoEntry}

-- ---- a message of the last step

-- The replica's own message is noted; or memory ran out, and nothing is changed. Another's is passed over.
abbrev pub NotesOwn : RepeatsFacts → CheckedMessage → Bool → ℕ → RepeatsFacts → Type 0
NotesOwn r m true status t = ((status ≡ number_of Done) × (t ≡ noted r m)) ⊎ ((status ≡ number_of Memory) × (t ≡ r))
NotesOwn r m false status t = (status ≡ number_of Done) × (t ≡ r)

abbrev pub NotesOutput : RepeatsFacts → Option Output → ℕ → RepeatsFacts → Type 0
NotesOutput r None status t = (status ≡ number_of NoEntry) × (t ≡ r)
NotesOutput r (Some output) status t = NotesOwn r output.message output.own status t

abbrev pub Notes : RepeatsFacts → Option RowFacts → ℕ → ℕ → RepeatsFacts → Type 0
Notes r None index status t = (status ≡ number_of NoRow) × (t ≡ r)
Notes r (Some row) index status t = NotesOutput r (slice_get row.outputs index) status t

abbrev pub NotesOf : RepeatsFacts → Option MemberFacts → ℕ → ℕ → RepeatsFacts → Type 0
NotesOf r None index status t = (status ≡ number_of NoReplica) × (t ≡ r)
NotesOf r (Some m) index status t = Notes r m.row index status t

abbrev pub NotedIn : Option Held → Option MemberFacts → ℕ → ℕ → Option Held → Type 0
NotedIn (Some (held.Repeats r)) m index status after =
    (t : RepeatsFacts) × NotesOf r m index status t × (after ≡ Some (held.Repeats t))
NotedIn before m index status after = (status ≡ number_of NoRepeats) × (after ≡ before)

-- ---- the replica goes on

-- the message of an input; none of a timeout
abbrev pub message_of : Input → Option CheckedMessage
message_of (inputs.Message m) = Some m
message_of inputs.Timeout = None

-- the message that it took last
abbrev pub taken_by : Option RowFacts → Option CheckedMessage
taken_by None = None
taken_by (Some row) = message_of row.input

abbrev after_taking : RepeatsFacts → MemberFacts → Option CheckedMessage → RepeatsFacts
after_taking r m None = r
after_taking r m (Some message) = taken r message m.replica.status.view.0 m.replica.status.active

-- what is sent again once it has stepped
abbrev pub followed : RepeatsFacts → MemberFacts → RepeatsFacts
followed r m = moved (after_taking r m (taken_by m.row)) m.replica.status.low.0 m.replica.status.executed.0 m.replica.status.view.0

abbrev pub Follows : RepeatsFacts → Option MemberFacts → ℕ → RepeatsFacts → Type 0
Follows r None status t = (status ≡ number_of NoReplica) × (t ≡ r)
Follows r (Some m) status t = ((status ≡ number_of Done) × (t ≡ followed r m)) ⊎ ((status ≡ number_of Memory) × (t ≡ r))

abbrev pub FollowedIn : Option Held → Option MemberFacts → ℕ → Option Held → Type 0
FollowedIn (Some (held.Repeats r)) m status after = (t : RepeatsFacts) × Follows r m status t × (after ≡ Some (held.Repeats t))
FollowedIn before m status after = (status ≡ number_of NoRepeats) × (after ≡ before)

-- ---- what is sent again

-- a Reply is for its client, all else for all other replicas
abbrev pub receiver_of : Body → Dest
receiver_of (bodies.Reply reply) = dests.Client reply.client
receiver_of _ = dests.All

abbrev pub RepeatTold : Option CheckedMessage → ℕ → ℕ → ℕ → ℕ → List ℕ → List ℕ → Type 0
RepeatTold None status kind id told before after = (status ≡ number_of NoEntry) × (after ≡ before)
RepeatTold (Some m) status kind id told before after = MessageTold (receiver_of m.message.body) m status kind id told before after

abbrev pub RepeatIn : Option RepeatsFacts → ℕ → ℕ → ℕ → ℕ → ℕ → List ℕ → List ℕ → Type 0
RepeatIn None index status kind id told before after = (status ≡ number_of NoRepeats) × (after ≡ before)
RepeatIn (Some r) index status kind id told before after = RepeatTold (slice_get r.kept index) status kind id told before after
