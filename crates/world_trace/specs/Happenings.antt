-- Statement: what is told of what is seen: each thing that happens, once and in order.
use Rattle.std.specs.Prelude.{◌≡◌, ℕ, List, [], ◌∷◌, ◌++◌, map, find, is_some, Option, Some, None, Result, Ok, Err, if◌then◌else◌}
use Rattle.host_types.specs.Configuration.{Configuration}
use Rattle.host_types.specs.declared.ClientId.{ClientId}
use Rattle.host_types.specs.declared.ReplicaId.{ReplicaId}
use Rattle.pbft_codec.specs.Reading.{reading}
use Rattle.script_text.specs.Node.{Node}
use Rattle.script_text.specs.Node.TheVariants.{Replica, Client}
use Rattle.script_text.specs.declared.script.ForgedMessage.{ForgedMessage}
use Rattle.script_text.specs.declared.script.ForgedMessage.TheVariants as forged
use Rattle.script_text.specs.declared.script.QueueEdit.TheVariants as edits
use Rattle.script_text.specs.declared.script.Step.{Step}
use Rattle.script_text.specs.declared.script.Step.TheVariants as steps
use Rattle.seal.specs.Opening.{CheckedMessage, opening}
use Rattle.seal.specs.declared.fault.SealFault.{SealFault}
use Rattle.world_chart.specs.Blame.{Blame}
use Rattle.world_chart.specs.Cause.{Cause}
use Rattle.world_chart.specs.Cause.TheVariants as causes
use Rattle.world_chart.specs.Changes.{changes_from, doings}
use Rattle.world_chart.specs.Happening.{Happening}
use Rattle.world_chart.specs.Happening.TheVariants as happens
use Rattle.world_chart.specs.Saying.{Saying}
use Rattle.world_chart.specs.Sayings.{said_in}
use Rattle.world_script.specs.Facts.{RowFacts, StageFacts}
use Rattle.world_script.specs.Letters.{LetterFacts}
use Rattle.world_script.specs.Seen as seen
use Rattle.world_script.specs.Seen.{Seen, standing}
use Rattle.world_script.specs.Stages.{is_request}
use Rattle.world_script.specs.Status.{Status}
use Rattle.world_script.specs.Worlds.{WorldFacts}

-- First what happens is so, and then so.
abbrev pub InTurn : (List Happening → Type 0) → (List Happening → Type 0) → List Happening → Type 0
InTurn first next happened = (xs : List Happening) × (ys : List Happening) × first xs × next ys × (happened ≡ xs ++ ys)

-- One thing happens.
abbrev pub IsOne : Happening → List Happening → Type 0
IsOne one happened = happened ≡ one ∷ []

-- ---- an event at a replica

-- Without a row there is no blame.
abbrev pub MayBlame : Option RowFacts → List Blame → Type 0
MayBlame None blamed = blamed ≡ []
MayBlame (Some row) blamed = Unit {0}

-- What became of the replica's standing, then what it did, and then whom its message blames.
pub record HappensAt (at : ReplicaId) (before : Option Status) (row : Option RowFacts) (world : WorldFacts) (happened : List Happening) : Type 0 where
  pub blamed : List Blame
  pub may : MayBlame row blamed
  pub is : happened ≡ changes_from at before (standing world (Replica at)) ++ (doings at row ++ map happens.Blamed blamed)

-- ---- a letter

-- what it says
abbrev pub says : LetterFacts → Saying
says l = said_in l.kind (reading l.bytes)

-- A replica refuses it for this fault, in some part.
abbrev pub IsRefusedFor : ReplicaId → LetterFacts → SealFault → List Happening → Type 0
IsRefusedFor at l fault happened = (part : Option ℕ) × IsOne (happens.Refused at l.from l.kind fault part) happened

-- the fault is what opening its bytes finds
abbrev pub IsRefused : ReplicaId → LetterFacts → Result CheckedMessage SealFault → List Happening → Type 0
IsRefused at l (Ok message) happened = happened ≡ []
IsRefused at l (Err fault) happened = IsRefusedFor at l fault happened

-- It is refused where something was printed.
abbrev pub MayBeRefused : ReplicaId → LetterFacts → List ℕ → Configuration → List Happening → Type 0
MayBeRefused at l [] config happened = happened ≡ []
MayBeRefused at l (c ∷ cs) config happened = IsRefused at l (opening config l.bytes) happened

-- A client accepts it where something was printed.
abbrev pub MayBeAccepted : ClientId → List ℕ → List Happening → Type 0
MayBeAccepted client [] happened = happened ≡ []
MayBeAccepted client (c ∷ cs) happened = IsOne (happens.Accepted client) happened

-- What comes of it at its addressee.
abbrev pub ComesTo : Node → Option Status → LetterFacts → Option RowFacts → List ℕ → WorldFacts → List Happening → Type 0
ComesTo (Replica at) before l row text world happened = InTurn (MayBeRefused at l text world.config) (HappensAt at before row world) happened
ComesTo (Client client) before l row text world happened = MayBeAccepted client text happened

-- ---- a step that queues nothing

-- why a vote of this replica was not signed that is to name this request
abbrev pub cause_of_vote : StageFacts → ReplicaId → Option (ClientId × ℕ) → Cause
cause_of_vote s from None = causes.Exhausted (Replica from)
cause_of_vote s from (Some request) =
    if is_some (find (is_request request) s.made) then causes.Exhausted (Replica from) else causes.NeverMade request.0 request.1

abbrev pub cause_of_forgery : StageFacts → ReplicaId → ForgedMessage → Cause
cause_of_forgery s from (forged.Vote vote) = cause_of_vote s from vote.request
cause_of_forgery s from other = causes.Exhausted (Replica from)

-- of a step that queues messages
abbrev pub cause_of : StageFacts → Step → Option Cause
cause_of s (steps.Request order) = Some (causes.Exhausted (Client order.client))
cause_of s (steps.Forge forgery) = Some (cause_of_forgery s forgery.from forgery.message)
cause_of s (steps.Edit (edits.Raw to payload)) = Some causes.NoMessage
cause_of s other = None

abbrev pub unqueued : Option Cause → List Happening
unqueued None = []
unqueued (Some cause) = happens.Unqueued cause ∷ []

-- ---- what is told

-- of one thing that is seen
abbrev pub Happens : Seen → List Happening → Type 0
Happens (seen.Handed before l passed row text world) happened =
    InTurn (IsOne (happens.Handed l.from l.to (says l))) (ComesTo l.to before l row text world) happened
Happens (seen.Lost l) happened = IsOne (happens.Lost l.from l.to (says l)) happened
Happens (seen.TimedOut before at row world) happened = InTurn (IsOne (happens.TimedOut at)) (HappensAt at before row world) happened
Happens (seen.Printed s step text) happened = happened ≡ unqueued (cause_of s step)

-- of one after another
abbrev pub AreTold : List Seen → List Happening → Type 0
AreTold [] happened = happened ≡ []
AreTold (x ∷ xs) happened = InTurn (Happens x) (AreTold xs) happened
