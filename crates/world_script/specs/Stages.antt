-- Statement: what each step of a script prints, and what it makes of a stage.
use Rattle.std.proofs.Common.{zero, suc}
use Rattle.std.specs.Prelude.{◌≡◌, ◌≢◌, ℕ, ◌+◌, ◌≤◌, ◌==◌, Bool, true, false, ◌&&◌, List, [], ◌∷◌, ◌++◌, map, find, flat_map, Option, Some, None, is_some, Result, Ok, Err, ◌⊎◌, slice_get}
use Rattle.std.specs.Option.{option_map}
use Rattle.host_types.specs.Configuration.{Configuration, replicas_for}
use Rattle.host_types.specs.declared.ClientId.{ClientId}
use Rattle.host_types.specs.declared.ReplicaId.{ReplicaId}
use Rattle.pbft_codec.specs.declared.body.Body.{Body}
use Rattle.pbft_codec.specs.declared.body.Body.TheVariants as bodies
use Rattle.pbft_codec.specs.Encoding.{signed_text}
use Rattle.seal.specs.Opening.{CheckedMessage, opening}
use Rattle.seal.specs.declared.fault.SealFault.{SealFault}
use Rattle.sha2.specs.Sha256.{sha256}
use Rattle.drained_records.specs.Facts.{RowFacts}
use Rattle.drained_records.specs.Halt.{Halt}
use Rattle.drained_records.specs.Halt.TheVariants as halts
use Rattle.drained_records.specs.Dest.{Dest}
use Rattle.drained_records.specs.Dest.TheVariants as dests
use Rattle.drained_records.specs.Output.{Output}
use Rattle.drained_records.specs.Worlds.{Gives, MemberFacts, Where, WorldFacts, member_of}
use Rattle.drained_records.specs.Event.{Event}
use Rattle.drained_records.specs.Event.TheVariants as events
use Rattle.world_queue.specs.Sessions.{SessionState, next_request}
use Rattle.script_text.specs.declared.script.DeliveryOrder.{DeliveryOrder}
use Rattle.script_text.specs.declared.script.Filter.{Filter}
use Rattle.script_text.specs.declared.script.ForgedMessage.{ForgedMessage}
use Rattle.script_text.specs.declared.script.ForgedMessage.TheVariants as forged
use Rattle.script_text.specs.declared.script.Forgery.{Forgery}
use Rattle.script_text.specs.declared.script.NamedStep.{NamedStep}
use Rattle.script_text.specs.declared.script.Order.{Order}
use Rattle.script_text.specs.Node.{Node}
use Rattle.script_text.specs.Node.TheVariants.{Replica, Client}
use Rattle.script_text.specs.declared.script.Printout.TheVariants as printouts
use Rattle.script_text.specs.declared.script.Step.{Step}
use Rattle.script_text.specs.declared.script.Step.TheVariants as steps
use Rattle.world_queue.specs.declared.fates.Fate.{Fate}
use Rattle.world_queue.specs.declared.fates.Fate.TheVariants.{Handed, Lost, Repeated, TimedOut}
use Rattle.world_queue.specs.declared.forging.Forger.{Forger}
use Rattle.world_script.specs.declared.made.Made.{Made}
use Rattle.world_script.specs.Edits.{Edited, edited}
use Rattle.world_script.specs.Facts.{StageFacts}
use Rattle.world_queue.specs.Fates.{fate}
use Rattle.world_queue.specs.Letters.{IsTaken, LetterFacts, copies, first_meant, is_meant, letter_of, meant_count, all_but}
use Rattle.world_queue.specs.Lines.{nothing_queued_line, refusal_line}
use Rattle.world_script.specs.Printing.{Shows, ids_of}
use Rattle.world_queue.specs.Parties.{after_asking, after_forging, after_offer, at_first, bare_view_change, forged_message, is_forger, is_of, signing_forger, signing_session, text_at, vote_body}

abbrev pub queued : StageFacts → List LetterFacts → StageFacts
queued s letters = record s { queue = s.queue ++ letters }

-- what is printed, and what is held then
abbrev pub Turn : Type 0
Turn = List ℕ × StageFacts

abbrev pub quiet : StageFacts → Turn
quiet s = ([], s)

abbrev pub nothing_queued : StageFacts → Turn
nothing_queued s = (nothing_queued_line, s)

abbrev pub all_replicas : Configuration → List Node
all_replicas c = map Replica (ids_of c)

-- ---- requests

-- whom a request is for: all replicas where none are named
abbrev pub receivers : Configuration → Option (List Node) → List Node
receivers c None = all_replicas c
receivers c (Some nodes) = nodes

-- the request that a session makes, as one that was made
abbrev pub made_by : ClientId → SessionState → List ℕ → Made
made_by client session op = record {
  client = client;
  time = session.time + 1;
  digest = record { 0 = sha256 (signed_text (next_request session op)) };
}

abbrev pub with_request : StageFacts → Order → SessionState → StageFacts
with_request s o session = record s {
  sessions = at_first (is_of o.client) (after_asking o.op) s.sessions;
  made = s.made ++ made_by o.client session o.op ∷ [];
  queue = s.queue ++ copies (letter_of (Client o.client) (next_request session o.op)) (receivers s.world.config o.to);
}

-- A client that can't sign queues nothing.
abbrev pub requested_by : StageFacts → Order → Option SessionState → Turn
requested_by s o None = nothing_queued s
requested_by s o (Some session) = quiet (with_request s o session)

abbrev pub requested : StageFacts → Order → Turn
requested s o = requested_by s o (signing_session s.sessions o.client)

-- ---- forged messages

abbrev pub is_request : ClientId × ℕ → Made → Bool
is_request named made = (made.client.0 == named.0.0) && (made.time == named.1)

-- the digest of a request that was made, or of the null request
abbrev pub digest_named : StageFacts → Option (ClientId × ℕ) → Option (List ℕ)
digest_named s None = Some (sha256 [])
digest_named s (Some named) = option_map (λ (made : Made). made.digest.0) (find (is_request named) s.made)

-- What a forged message says. A vote for a request that was never made is none.
abbrev pub forged_body : StageFacts → ForgedMessage → Option Body
forged_body s (forged.Vote v) = option_map (vote_body v.kind v) (digest_named s v.request)
forged_body s (forged.Checkpoint number digest) = Some (bodies.Checkpoint (record { number = number; digest = digest }))
forged_body s (forged.ViewChange view) = Some (bodies.ViewChange (bare_view_change view))

abbrev pub with_forged : StageFacts → Forgery → Body → Forger → StageFacts
with_forged s f body g = record s {
  forgers = at_first (is_forger f.from) after_forging s.forgers;
  queue = s.queue ++ copies (letter_of (Replica f.from) (forged_message g.signer f body)) f.to;
}

-- A replica that can't sign queues nothing.
abbrev pub forged_by : StageFacts → Forgery → Body → Option Forger → Turn
forged_by s f body None = nothing_queued s
forged_by s f body (Some g) = quiet (with_forged s f body g)

abbrev pub forged_for : StageFacts → Forgery → Option Body → Turn
forged_for s f None = nothing_queued s
forged_for s f (Some body) = forged_by s f body (signing_forger s.forgers f.from)

abbrev pub forges : StageFacts → Forgery → Turn
forges s f = forged_for s f (forged_body s f.message)

-- ---- events at a replica

-- correct, and not halted
abbrev pub runs_in : Option MemberFacts → Bool
runs_in None = false
runs_in (Some m) = is_some m.replica.core

abbrev pub is_running : WorldFacts → ReplicaId → Bool
is_running w id = runs_in (member_of w id.0)

abbrev pub halt_in : Option MemberFacts → Option Halt
halt_in None = None
halt_in (Some m) = m.replica.status.halted

-- whom an output is for
abbrev pub receivers_of : Configuration → ReplicaId → Dest → List Node
receivers_of c from dests.All = all_but (Replica from) (all_replicas c)
receivers_of c from (dests.Replica id) = Replica id ∷ []
receivers_of c from (dests.Client client) = Client client ∷ []

abbrev pub letters_of : Configuration → ReplicaId → Output → List LetterFacts
letters_of c from o = copies (letter_of (Replica from) o.message.message) (receivers_of c from o.to)

abbrev pub letters_in : Configuration → ReplicaId → Option RowFacts → List LetterFacts
letters_in c from None = []
letters_in c from (Some row) = flat_map (letters_of c from) row.outputs

abbrev pub lacked_memory : Option Halt → Bool
lacked_memory None = false
lacked_memory (Some halts.Memory) = true
lacked_memory (Some halts.Exhausted) = false
lacked_memory (Some halts.Worn) = false
lacked_memory (Some halts.JournalFull) = false
lacked_memory (Some halts.AlreadyHalted) = false

-- The event happens, and what it gives is queued. A replica that halts for lack of memory ends the script instead.
pub record Occurs (s : StageFacts) (id : ReplicaId) (event : Event) (t : StageFacts) : Type 0 where
  pub row : Option RowFacts
  pub world : WorldFacts
  pub gives : Gives s.world event (Ok row) world
  pub continues : lacked_memory (halt_in (member_of world id.0)) ≡ false
  pub new : t ≡ queued (record s { world = world }) (letters_in s.world.config id row)

-- A timeout; one at a replica that is faulty or has halted is nothing.
abbrev pub TimesOut : StageFacts → ReplicaId → StageFacts → Type 0
TimesOut s id t = Where (is_running s.world id) (Occurs s id (events.Timeout id) t) (t ≡ s)

abbrev pub AllTimeOut : StageFacts → List ReplicaId → StageFacts → Type 0
AllTimeOut s [] t = t ≡ s
AllTimeOut s (id ∷ ids) t = (u : StageFacts) × TimesOut s id u × AllTimeOut u ids t

-- ---- deliveries

-- what is printed of bytes that a replica refuses
abbrev pub refusal_of : ReplicaId → Result CheckedMessage SealFault → List ℕ
refusal_of id (Ok m) = []
refusal_of id (Err fault) = refusal_line id fault

pub record Receives (s : StageFacts) (id : ReplicaId) (bytes : List ℕ) (text : List ℕ) (t : StageFacts) : Type 0 where
  pub occurs : Occurs s id (events.Deliver id bytes) t
  pub text_is : text ≡ refusal_of id (opening s.world.config bytes)

abbrev pub AtReplica : StageFacts → ReplicaId → List ℕ → List ℕ → StageFacts → Type 0
AtReplica s id bytes text t = Where (is_running s.world id) (Receives s id bytes text t) ((text, t) ≡ quiet s)

-- a client passes over bytes that are no message
abbrev pub at_client : StageFacts → ClientId → Result CheckedMessage SealFault → Turn
at_client s client (Err fault) = quiet s
at_client s client (Ok m) = (
  text_at (find (is_of client) s.sessions) m.message,
  record s { sessions = after_offer s.sessions client m.message },
)

abbrev pub HandsTo : Node → StageFacts → List ℕ → List ℕ → StageFacts → Type 0
HandsTo (Replica id) s bytes text t = AtReplica s id bytes text t
HandsTo (Client client) s bytes text t = (text, t) ≡ at_client s client (opening s.world.config bytes)

-- A letter that is meant, behind so many others that are, is taken from the queue and handed to its addressee.
pub record Delivers (f : Filter) (passed : ℕ) (s : StageFacts) (text : List ℕ) (t : StageFacts) : Type 0 where
  pub letter : LetterFacts
  pub left : List LetterFacts
  pub taken : IsTaken f passed s.queue letter left
  pub handed : HandsTo letter.to (record s { queue = left }) letter.bytes text t

-- One is taken and lost.
pub record Loses (f : Filter) (passed : ℕ) (s : StageFacts) (text : List ℕ) (t : StageFacts) : Type 0 where
  pub letter : LetterFacts
  pub left : List LetterFacts
  pub taken : IsTaken f passed s.queue letter left
  pub turn : (text, t) ≡ quiet (record s { queue = left })

-- One is taken and queued again, last, and then a copy of it is handed to its addressee.
pub record Repeats (f : Filter) (passed : ℕ) (s : StageFacts) (text : List ℕ) (t : StageFacts) : Type 0 where
  pub letter : LetterFacts
  pub left : List LetterFacts
  pub taken : IsTaken f passed s.queue letter left
  pub handed : HandsTo letter.to (record s { queue = left ++ letter ∷ [] }) letter.bytes text t

-- A letter is meant, and all stay where they are, while a replica times out.
pub record IsLate (f : Filter) (at : ReplicaId) (s : StageFacts) (text : List ℕ) (t : StageFacts) : Type 0 where
  pub more : first_meant f s.queue ≢ None
  pub times_out : TimesOut s at t
  pub text_is : text ≡ []

-- What a delivery does, by what becomes of it.
abbrev pub Befalls : Fate → Filter → StageFacts → List ℕ → StageFacts → Type 0
Befalls (Handed passed) f s text t = Delivers f passed s text t
Befalls (Lost passed) f s text t = Loses f passed s text t
Befalls (Repeated passed) f s text t = Repeats f passed s text t
Befalls (TimedOut at) f s text t = IsLate f at s text t

-- what becomes of the delivery behind n others
abbrev pub fate_at : Filter → DeliveryOrder → ℕ → StageFacts → Fate
fate_at f order n s = fate order n (meant_count f s.queue) (replicas_for s.world.config.f)

-- so many deliveries in an order
abbrev pub Deliveries : Filter → DeliveryOrder → ℕ → StageFacts → List ℕ → StageFacts → Type 0
Deliveries f order zero s text t = (text ≡ []) × (t ≡ s)
Deliveries f order (suc n) s text t =
    (before line : List ℕ) × (u : StageFacts) × Deliveries f order n s before u × Befalls (fate_at f order n u) f u line t × (text ≡ before ++ line)

abbrev pub max_deliveries : ℕ
max_deliveries = 1_000_000

-- ---- steps

-- what an edit prints, and the same stage but for its queue
abbrev pub with_queue : StageFacts → Edited → Turn
with_queue s e = (e.0, record s { queue = e.1 })

-- What a step prints, and what is held after it.
abbrev pub Prints : StageFacts → Step → List ℕ → StageFacts → Type 0
Prints s (steps.Request o) text t = (text, t) ≡ requested s o
Prints s (steps.Deliver f order) text t = (n : ℕ) × (n ≤ max_deliveries) × Deliveries f order n s text t × (first_meant f t.queue ≡ None)
Prints s (steps.Timeout at) text t = (text ≡ []) × AllTimeOut s at t
Prints s (steps.Forge f) text t = (text, t) ≡ forges s f
Prints s (steps.Edit e) text t = (text, t) ≡ with_queue s (edited s e)
Prints s (steps.Print p) text t = Shows s p text × (t ≡ s)
Prints s (steps.Expect expected) text t = (text ≡ []) × (t ≡ s)

-- ---- names

-- The message that a step names before which so many letters were queued: the first that `queue` lists, or the first that
-- the step queued.
abbrev pub message_of : ℕ → Step → StageFacts → Option LetterFacts
message_of before (steps.Print (printouts.Queue f)) t = first_meant f t.queue
message_of before other t = slice_get t.queue before

abbrev pub with_named : StageFacts → Option (List ℕ) → Option LetterFacts → StageFacts
with_named t None letter = t
with_named t (Some name) None = t
with_named t (Some name) (Some letter) = record t { named = t.named ++ record { name = name; letter = letter } ∷ [] }

-- what is held behind a step with a name, if there is a message for it
abbrev pub after_naming : ℕ → NamedStep → StageFacts → StageFacts
after_naming before x t = with_named t x.name (message_of before x.step t)

-- More messages are meant than a step delivers.
abbrev pub Overruns : StageFacts → Step → List ℕ → Type 0
Overruns s (steps.Deliver f order) text = (t : StageFacts) × Deliveries f order max_deliveries s text t × (first_meant f t.queue ≢ None)
Overruns s other text = ⊥

-- nothing, or all that a step prints
abbrev pub IsAllOrNothing : StageFacts → Step → List ℕ → Type 0
IsAllOrNothing s step text = (text ≡ []) ⊎ ((t : StageFacts) × Prints s step text t)

-- What a step may have printed before it ended: the lines of some deliveries, else all lines or none.
abbrev pub Begins : StageFacts → Step → List ℕ → Type 0
Begins s (steps.Deliver f order) text = (n : ℕ) × (t : StageFacts) × (n ≤ max_deliveries) × Deliveries f order n s text t
Begins s other text = IsAllOrNothing s other text
