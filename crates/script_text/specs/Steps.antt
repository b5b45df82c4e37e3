-- Statement: what the keys of a step say.
use Rattle.std.specs.Prelude.{ℕ, codes, List, [], ◌∷◌, ◌++◌, Option, Some, None, Result, Ok, Err, is_some, bytes_eq, if◌then◌else◌}
use Rattle.seal.specs.declared.vote.VoteKind.{VoteKind}
use Rattle.toml.specs.Data.{Members, get_member}
use Rattle.script_values.specs.declared.fault.TableFault.{TableFault}
use Rattle.script_values.specs.declared.said.Client.{Client}
use Rattle.script_values.specs.declared.fault.TableFault.TheVariants.{WrongValue}
use Rattle.script_text.specs.declared.script.Damage.{Damage}
use Rattle.script_text.specs.declared.script.Damage.TheVariants.{Cut, Flip}
use Rattle.script_text.specs.declared.script.DeliveryOrder.{DeliveryOrder}
use Rattle.script_text.specs.declared.script.DeliveryOrder.TheVariants as orders
use Rattle.script_text.specs.declared.script.Filter.{Filter}
use Rattle.script_text.specs.declared.script.ForgedMessage.{ForgedMessage}
use Rattle.script_text.specs.declared.script.ForgedMessage.TheVariants.{Vote, Checkpoint, ViewChange}
use Rattle.script_text.specs.declared.script.Forgery.{Forgery}
use Rattle.script_values.specs.declared.values.ForgedKind.{ForgedKind}
use Rattle.script_values.specs.declared.values.ForgedKind.TheVariants as forged
use Rattle.std.specs.Int.{to_be_bytes, w32}
use Rattle.std.specs.Option.{option_map}
use Rattle.host_types.specs.declared.ClientId.{ClientId}
use Rattle.host_types.specs.declared.Digest.{Digest}
use Rattle.host_types.specs.declared.ReplicaId.{ReplicaId}
use Rattle.host_types.specs.declared.SeqNo.{SeqNo}
use Rattle.script_text.specs.declared.script.NamedStep.{NamedStep}
use Rattle.script_text.specs.declared.script.Order.{Order}
use Rattle.script_text.specs.declared.script.Payload.{Payload}
use Rattle.script_text.specs.declared.script.Payload.TheVariants.{Bytes, Message}
use Rattle.script_values.specs.declared.said.InstallProfile.{InstallProfile}
use Rattle.script_values.specs.declared.said.InstallProfile.TheVariants as profiles
use Rattle.script_values.specs.declared.said.Node.{Node}
use Rattle.script_text.specs.declared.script.Printout.{Printout}
use Rattle.script_text.specs.declared.script.Printout.TheVariants as printouts
use Rattle.script_text.specs.declared.script.QueueEdit.{QueueEdit}
use Rattle.script_text.specs.declared.script.QueueEdit.TheVariants as edits
use Rattle.script_text.specs.declared.script.Step.{Step}
use Rattle.script_text.specs.declared.script.Step.TheVariants as steps
use Rattle.script_values.specs.declared.kind.Kind.{Kind}
use Rattle.script_text.specs.Files.{file_code}
use Rattle.script_text.specs.Naming.{given_name, new_name}
use Rattle.script_text.specs.Orders.{chosen_in, drawn_in}
use Rattle.script_text.specs.declared.files.NamedFile.{NamedFile}
use Rattle.script_values.specs.Forms.{assembler_text, pair_of, client_name, faulty_index, hex_bytes, digest, forged_kind, is_one_of, kind_name, lines, list_of, needed_key, numbers, only_keys, optional_key, node, profile, replica, sequence_number, up_to, yes}

-- what a reading says, put into a step
abbrev pub as_step : {A : Type 0} → (A → Step) → Result A TableFault → Result Step TableFault
as_step step_of (Ok x) = Ok (step_of x)
as_step step_of (Err fault) = Err fault

-- whose messages of the queue, for whom and of which kinds
abbrev pub Selection : Type 0
Selection = Option (List Node) × (Option (List Node) × Option (List Kind))

abbrev pub selection_in : ℕ → List Client → Members → Result Selection TableFault
selection_in count clients members =
    pair_of (optional_key (list_of (node count clients)) (codes "from") members)
    (pair_of (optional_key (list_of (node count clients)) (codes "to") members) (optional_key (list_of kind_name) (codes "kinds") members))

abbrev pub filter_of : Selection → Filter
filter_of r = record { from = r.0; to = r.1.0; kinds = r.1.1 }

abbrev pub filter_from : Result Selection TableFault → Result Filter TableFault
filter_from (Ok r) = Ok (filter_of r)
filter_from (Err fault) = Err fault

-- which messages of the queue are meant, in a table of these keys
abbrev pub filter_in : List (List ℕ) → ℕ → List Client → Members → Result Filter TableFault
filter_in keys count clients members = filter_from (only_keys (selection_in count clients members) keys members)

-- of a step that names no message, and of one that may
abbrev pub filter_keys : List (List ℕ)
filter_keys = codes "do" ∷ codes "from" ∷ codes "to" ∷ codes "kinds" ∷ []

abbrev pub named_filter_keys : List (List ℕ)
named_filter_keys = codes "do" ∷ codes "from" ∷ codes "to" ∷ codes "kinds" ∷ codes "as" ∷ []

-- ---- deliveries

-- what is delivered, and in which order
abbrev pub deliver_from : Result (DeliveryOrder × Selection) TableFault → Result Step TableFault
deliver_from (Ok r) = Ok (steps.Deliver (filter_of r.1) r.0)
deliver_from (Err fault) = Err fault

abbrev pub deliver_with : Result DeliveryOrder TableFault → List (List ℕ) → ℕ → List Client → Members → Result Step TableFault
deliver_with order keys count clients members =
    deliver_from (only_keys (pair_of order (selection_in count clients members)) keys members)

-- in the order of the queue, in one that a list chooses, and in one that a seed may draw
abbrev pub plain_deliver_in : ℕ → List Client → Members → Result Step TableFault
plain_deliver_in count clients members = deliver_with (Ok orders.Oldest) filter_keys count clients members

abbrev pub chosen_deliver_in : ℕ → List Client → Members → Result Step TableFault
chosen_deliver_in count clients members =
    deliver_with (chosen_in members) (codes "do" ∷ codes "from" ∷ codes "to" ∷ codes "kinds" ∷ codes "choose" ∷ []) count clients members

abbrev pub drawn_deliver_in : ℕ → List Client → Members → Result Step TableFault
drawn_deliver_in count clients members =
    deliver_with (drawn_in members)
    (codes "do" ∷ codes "from" ∷ codes "to" ∷ codes "kinds" ∷ codes "order" ∷ codes "lose" ∷ codes "again" ∷ codes "late" ∷ [])
    count clients members

-- The order is chosen where there is such a key, drawn where there is a seed, and else that of the queue.
abbrev pub deliver_in : ℕ → List Client → Members → Result Step TableFault
deliver_in count clients members =
    if is_some (get_member (codes "choose") members) then chosen_deliver_in count clients members
    else if is_some (get_member (codes "order") members) then drawn_deliver_in count clients members
    else plain_deliver_in count clients members

-- The same of a script whose seed is given beside it: it has chances without a seed of its own, too.
abbrev pub seeded_deliver_in : ℕ → List Client → Members → Result Step TableFault
seeded_deliver_in count clients members =
    if is_some (get_member (codes "choose") members) then chosen_deliver_in count clients members
    else drawn_deliver_in count clients members

-- ---- what becomes of the queue

-- which messages are lost, which are queued once more, and which are printed
abbrev pub drop_in : ℕ → List Client → Members → Result Step TableFault
drop_in count clients members = as_step (λ f. steps.Edit (edits.Drop f)) (filter_in filter_keys count clients members)

abbrev pub repeat_in : ℕ → List Client → Members → Result Step TableFault
repeat_in count clients members = as_step (λ f. steps.Edit (edits.Repeat f)) (filter_in named_filter_keys count clients members)

abbrev pub queue_in : ℕ → List Client → Members → Result Step TableFault
queue_in count clients members = as_step (λ f. steps.Print (printouts.Queue f)) (filter_in named_filter_keys count clients members)

-- ---- changed copies

abbrev pub mangle_from : Result (Damage × Selection) TableFault → Result Step TableFault
mangle_from (Ok r) = Ok (steps.Edit (edits.Mangle (filter_of r.1) r.0))
mangle_from (Err fault) = Err fault

abbrev pub mangle_with : Result Damage TableFault → List (List ℕ) → ℕ → List Client → Members → Result Step TableFault
mangle_with damage keys count clients members =
    mangle_from (only_keys (pair_of damage (selection_in count clients members)) keys members)

abbrev pub damage_from : (ℕ → Damage) → Result ℕ TableFault → Result Damage TableFault
damage_from damage (Ok n) = Ok (damage n)
damage_from damage (Err fault) = Err fault

-- how many bytes, as far as a document can name a number
abbrev pub damage_at : (ℕ → Damage) → List ℕ → Members → Result Damage TableFault
damage_at damage key members = damage_from damage (needed_key (up_to 9223372036854775807) key members)

-- The last bytes are cut off where there is such a key, else a bit is flipped.
abbrev pub mangle_in : ℕ → List Client → Members → Result Step TableFault
mangle_in count clients members =
    if is_some (get_member (codes "cut") members)
    then mangle_with (damage_at Cut (codes "cut") members) (codes "do" ∷ codes "from" ∷ codes "to" ∷ codes "kinds" ∷ codes "cut" ∷ codes "as" ∷ []) count clients members
    else mangle_with (damage_at Flip (codes "flip") members) (codes "do" ∷ codes "from" ∷ codes "to" ∷ codes "kinds" ∷ codes "flip" ∷ codes "as" ∷ []) count clients members

-- where timeouts come
abbrev pub timeout_from : Result (List ReplicaId) TableFault → Result Step TableFault
timeout_from (Ok at) = Ok (steps.Timeout at)
timeout_from (Err fault) = Err fault

abbrev pub timeout_in : ℕ → Members → Result Step TableFault
timeout_in count members =
    timeout_from (only_keys (needed_key (list_of (replica count)) (codes "at") members) (codes "do" ∷ codes "at" ∷ []) members)

-- whose state is shown
abbrev pub state_from : Result ReplicaId TableFault → Result Step TableFault
state_from (Ok id) = Ok (steps.Print (printouts.State id))
state_from (Err fault) = Err fault

abbrev pub state_in : ℕ → Members → Result Step TableFault
state_in count members =
    state_from (only_keys (needed_key (replica count) (codes "at") members) (codes "do" ∷ codes "at" ∷ []) members)

-- bytes of a state
abbrev pub upgrade_from : Result (List ℕ) TableFault → Result Step TableFault
upgrade_from (Ok bytes) = Ok (steps.Print (printouts.Upgrade bytes))
upgrade_from (Err fault) = Err fault

abbrev pub upgrade_in : Members → Result Step TableFault
upgrade_in members =
    upgrade_from (only_keys (needed_key hex_bytes (codes "bytes") members) (codes "do" ∷ codes "bytes" ∷ []) members)

-- what is to have been printed
abbrev pub expect_from : Result (List ℕ) TableFault → Result Step TableFault
expect_from (Ok text) = Ok (steps.Expect text)
expect_from (Err fault) = Err fault

abbrev pub expect_in : Members → Result Step TableFault
expect_in members =
    expect_from (only_keys (needed_key lines (codes "lines") members) (codes "do" ∷ codes "lines" ∷ []) members)

-- ---- raw bytes

-- bytes, and for whom they are queued
abbrev pub raw_from : Result (Payload × List Node) TableFault → Result Step TableFault
raw_from (Ok r) = Ok (steps.Edit (edits.Raw r.1 r.0))
raw_from (Err fault) = Err fault

abbrev pub raw_with : Result Payload TableFault → List (List ℕ) → ℕ → List Client → Members → Result Step TableFault
raw_with payload keys count clients members =
    raw_from (only_keys (pair_of payload (needed_key (list_of (node count clients)) (codes "to") members)) keys members)

-- bytes that are given
abbrev pub bytes_from : Result (List ℕ) TableFault → Result Payload TableFault
bytes_from (Ok bytes) = Ok (Bytes bytes)
bytes_from (Err fault) = Err fault

abbrev pub bytes_in : Members → Result Payload TableFault
bytes_in members = bytes_from (needed_key hex_bytes (codes "bytes") members)

-- how they are changed, if there is such a key
abbrev pub change_from : (ℕ → Damage) → Result (Option ℕ) TableFault → Result (Option Damage) TableFault
change_from damage (Ok n) = Ok (option_map damage n)
change_from damage (Err fault) = Err fault

abbrev pub change_at : (ℕ → Damage) → List ℕ → Members → Result (Option Damage) TableFault
change_at damage key members = change_from damage (optional_key (up_to 9223372036854775807) key members)

-- those of a message that has a name
abbrev pub message_from : Result (List ℕ × Option Damage) TableFault → Result Payload TableFault
message_from (Ok r) = Ok (Message r.0 r.1)
message_from (Err fault) = Err fault

abbrev pub message_with : Result (Option Damage) TableFault → List NamedStep → Members → Result Payload TableFault
message_with change earlier members = message_from (pair_of (needed_key (given_name earlier) (codes "message") members) change)

-- Bytes where there is such a key, else those of a message: without the last ones where there is a key for that, else
-- perhaps with a bit flipped.
abbrev pub raw_in : ℕ → List Client → List NamedStep → Members → Result Step TableFault
raw_in count clients earlier members =
    if is_some (get_member (codes "bytes") members)
    then raw_with (bytes_in members) (codes "do" ∷ codes "to" ∷ codes "bytes" ∷ codes "as" ∷ []) count clients members
    else if is_some (get_member (codes "cut") members)
    then raw_with (message_with (change_at Cut (codes "cut") members) earlier members)
    (codes "do" ∷ codes "to" ∷ codes "message" ∷ codes "cut" ∷ codes "as" ∷ []) count clients members
    else raw_with (message_with (change_at Flip (codes "flip") members) earlier members)
    (codes "do" ∷ codes "to" ∷ codes "message" ∷ codes "flip" ∷ codes "as" ∷ []) count clients members

-- who signs a forged message, and for whom it is queued
abbrev pub route_in : ℕ → List ReplicaId → List Client → Members → Result (ReplicaId × List Node) TableFault
route_in count faulty clients members =
    pair_of (needed_key (faulty_index faulty) (codes "from") members) (needed_key (list_of (node count clients)) (codes "to") members)

-- the operation that installs code under a profile of the verifier, the first one where none is given
abbrev pub installing : Option InstallProfile → ℕ
installing None = 1
installing (Some profiles.One) = 1
installing (Some profiles.Two) = 4

abbrev pub install_from : Result (List ℕ × Option InstallProfile) TableFault → Result (List ℕ) TableFault
install_from (Ok r) = Ok (installing r.1 ∷ r.0)
install_from (Err fault) = Err fault

abbrev pub profile_in : Members → Result (Option InstallProfile) TableFault
profile_in members = optional_key profile (codes "profile") members

abbrev pub install_in : Members → Result (List ℕ) TableFault
install_in members = install_from (pair_of (needed_key hex_bytes (codes "install") members) (profile_in members))

-- the same of an assembler text
abbrev pub asm_in : Members → Result (List ℕ) TableFault
asm_in members = install_from (pair_of (needed_key assembler_text (codes "asm") members) (profile_in members))

-- the same of the code in one of these files
abbrev pub file_in : List NamedFile → Members → Result (List ℕ) TableFault
file_in files members = install_from (pair_of (needed_key (file_code files) (codes "file") members) (profile_in members))

-- the operation that calls a procedure
abbrev pub arguments_of : Option (List ℕ) → List ℕ
arguments_of None = []
arguments_of (Some bytes) = bytes

abbrev pub call_from : Result (ℕ × Option (List ℕ)) TableFault → Result (List ℕ) TableFault
call_from (Ok r) = Ok (2 ∷ to_be_bytes w32 r.0 ++ arguments_of r.1)
call_from (Err fault) = Err fault

abbrev pub call_in : Members → Result (List ℕ) TableFault
call_in members = call_from (pair_of (needed_key (up_to 4294967295) (codes "call") members) (optional_key hex_bytes (codes "args") members))

-- the same with numbers as arguments
abbrev pub numbered_call_in : Members → Result (List ℕ) TableFault
numbered_call_in members = call_from (pair_of (needed_key (up_to 4294967295) (codes "call") members) (optional_key numbers (codes "numbers") members))

-- the request that a vote names: none is the null request
abbrev pub null_from : Result (Unit {0}) TableFault → Result (Option (ClientId × ℕ)) TableFault
null_from (Ok x) = Ok None
null_from (Err fault) = Err fault

abbrev pub null_in : Members → Result (Option (ClientId × ℕ)) TableFault
null_in members = null_from (needed_key yes (codes "null") members)

abbrev pub named_from : Result (ClientId × ℕ) TableFault → Result (Option (ClientId × ℕ)) TableFault
named_from (Ok r) = Ok (Some r)
named_from (Err fault) = Err fault

abbrev pub named_in : List Client → Members → Result (Option (ClientId × ℕ)) TableFault
named_in clients members =
    named_from (pair_of (needed_key (client_name clients) (codes "client") members) (needed_key (up_to 9223372036854775807) (codes "time") members))

-- A request: it installs code where there is such a key, or that of an assembler text, or of a file, else it calls a
-- procedure, with numbers where there is a key for them.
abbrev pub order_from : Result (List ℕ × (ClientId × Option (List Node))) TableFault → Result Order TableFault
order_from (Ok r) = Ok (record { client = r.1.0; op = r.0; to = r.1.1 })
order_from (Err fault) = Err fault

abbrev pub order_with : Result (List ℕ) TableFault → List (List ℕ) → ℕ → List Client → Members → Result Order TableFault
order_with op keys count clients members =
    order_from (only_keys
    (pair_of op (pair_of (needed_key (client_name clients) (codes "client") members) (optional_key (list_of (node count clients)) (codes "to") members)))
    keys members)

abbrev pub order_in : List NamedFile → ℕ → List Client → Members → Result Order TableFault
order_in files count clients members =
    if is_some (get_member (codes "install") members)
    then order_with (install_in members) (codes "do" ∷ codes "client" ∷ codes "install" ∷ codes "profile" ∷ codes "to" ∷ codes "as" ∷ []) count clients members
    else if is_some (get_member (codes "asm") members)
    then order_with (asm_in members) (codes "do" ∷ codes "client" ∷ codes "asm" ∷ codes "profile" ∷ codes "to" ∷ codes "as" ∷ []) count clients members
    else if is_some (get_member (codes "file") members)
    then order_with (file_in files members) (codes "do" ∷ codes "client" ∷ codes "file" ∷ codes "profile" ∷ codes "to" ∷ codes "as" ∷ []) count clients members
    else if is_some (get_member (codes "numbers") members)
    then order_with (numbered_call_in members) (codes "do" ∷ codes "client" ∷ codes "call" ∷ codes "numbers" ∷ codes "to" ∷ codes "as" ∷ []) count clients members
    else order_with (call_in members) (codes "do" ∷ codes "client" ∷ codes "call" ∷ codes "args" ∷ codes "to" ∷ codes "as" ∷ []) count clients members

-- ---- a forged message

-- who signs a message, and for whom it is queued
abbrev pub Route : Type 0
Route = ReplicaId × List Node

abbrev pub forgery_from : Result (ForgedMessage × Route) TableFault → Result Forgery TableFault
forgery_from (Ok r) = Ok (record { from = r.1.0; to = r.1.1; message = r.0 })
forgery_from (Err fault) = Err fault

-- what is forged, in a table of these keys
abbrev pub forgery_with : Result ForgedMessage TableFault → List (List ℕ) → ℕ → List ReplicaId → List Client → Members → Result Forgery TableFault
forgery_with message keys count faulty clients members =
    forgery_from (only_keys (pair_of message (route_in count faulty clients members)) keys members)

abbrev pub vote_of : VoteKind → Option (ClientId × ℕ) × (ℕ × SeqNo) → ForgedMessage
vote_of kind r = Vote (record { kind = kind; view = record { 0 = r.1.0 }; number = r.1.1; request = r.0 })

abbrev pub vote_from : VoteKind → Result (Option (ClientId × ℕ) × (ℕ × SeqNo)) TableFault → Result ForgedMessage TableFault
vote_from kind (Ok r) = Ok (vote_of kind r)
vote_from kind (Err fault) = Err fault

-- a vote for this request
abbrev pub vote_for : VoteKind → Result (Option (ClientId × ℕ)) TableFault → Members → Result ForgedMessage TableFault
vote_for kind request members =
    vote_from kind (pair_of request
    (pair_of (needed_key (up_to 4294967295) (codes "view") members) (needed_key sequence_number (codes "number") members)))

-- a vote for the null request where there is such a key, else for a client's
abbrev pub forged_vote_in : VoteKind → ℕ → List ReplicaId → List Client → Members → Result Forgery TableFault
forged_vote_in kind count faulty clients members =
    if is_some (get_member (codes "null") members)
    then forgery_with (vote_for kind (null_in members) members)
    (codes "do" ∷ codes "from" ∷ codes "to" ∷ codes "kind" ∷ codes "view" ∷ codes "number" ∷ codes "null" ∷ codes "as" ∷ [])
    count faulty clients members
    else forgery_with (vote_for kind (named_in clients members) members)
    (codes "do" ∷ codes "from" ∷ codes "to" ∷ codes "kind" ∷ codes "view" ∷ codes "number" ∷ codes "client" ∷ codes "time" ∷ codes "as" ∷ [])
    count faulty clients members

abbrev pub checkpoint_from : Result (SeqNo × Digest) TableFault → Result ForgedMessage TableFault
checkpoint_from (Ok r) = Ok (Checkpoint r.0 r.1)
checkpoint_from (Err fault) = Err fault

abbrev pub checkpoint_in : Members → Result ForgedMessage TableFault
checkpoint_in members =
    checkpoint_from (pair_of (needed_key sequence_number (codes "number") members) (needed_key digest (codes "digest") members))

abbrev pub view_change_from : Result ℕ TableFault → Result ForgedMessage TableFault
view_change_from (Ok view) = Ok (ViewChange (record { 0 = view }))
view_change_from (Err fault) = Err fault

abbrev pub view_change_in : Members → Result ForgedMessage TableFault
view_change_in members = view_change_from (needed_key (up_to 4294967295) (codes "view") members)

-- A message of a kind. Where the kind isn't known, only whose it is and for whom is looked at.
abbrev pub forgery_of : Result ForgedKind TableFault → ℕ → List ReplicaId → List Client → Members → Result Forgery TableFault
forgery_of (Ok (forged.Vote kind)) count faulty clients members = forged_vote_in kind count faulty clients members
forgery_of (Ok forged.Checkpoint) count faulty clients members =
    forgery_with (checkpoint_in members)
    (codes "do" ∷ codes "from" ∷ codes "to" ∷ codes "kind" ∷ codes "number" ∷ codes "digest" ∷ codes "as" ∷ [])
    count faulty clients members
forgery_of (Ok forged.ViewChange) count faulty clients members =
    forgery_with (view_change_in members) (codes "do" ∷ codes "from" ∷ codes "to" ∷ codes "kind" ∷ codes "view" ∷ codes "as" ∷ [])
    count faulty clients members
forgery_of (Err fault) count faulty clients members = forgery_from (pair_of (Err fault) (route_in count faulty clients members))

abbrev pub forgery_in : ℕ → List ReplicaId → List Client → Members → Result Forgery TableFault
forgery_in count faulty clients members = forgery_of (needed_key forged_kind (codes "kind") members) count faulty clients members

-- ---- a step

-- what is printed by a step of no keys but its name
abbrev pub bare : Printout → Members → Result Step TableFault
bare said members = only_keys (Ok (steps.Print said)) (codes "do" ∷ []) members

-- a step of this name, with these files, under so many replicas, these faulty ones and these clients, behind these steps
abbrev pub step_named : List ℕ → List NamedFile → ℕ → List ReplicaId → List Client → List NamedStep → Members → Result Step TableFault
step_named t files count faulty clients earlier members =
    if bytes_eq t (codes "request") then as_step steps.Request (order_in files count clients members)
    else if bytes_eq t (codes "deliver") then deliver_in count clients members
    else if bytes_eq t (codes "drop") then drop_in count clients members
    else if bytes_eq t (codes "repeat") then repeat_in count clients members
    else if bytes_eq t (codes "queue") then queue_in count clients members
    else if bytes_eq t (codes "timeout") then timeout_in count members
    else if bytes_eq t (codes "forge") then as_step steps.Forge (forgery_in count faulty clients members)
    else if bytes_eq t (codes "mangle") then mangle_in count clients members
    else if bytes_eq t (codes "raw") then raw_in count clients earlier members
    else if bytes_eq t (codes "show") then bare printouts.Show members
    else if bytes_eq t (codes "digest") then bare printouts.Digest members
    else if bytes_eq t (codes "state") then state_in count members
    else if bytes_eq t (codes "upgrade") then upgrade_in members
    else if bytes_eq t (codes "expect") then expect_in members
    else if bytes_eq t (codes "audit") then bare printouts.Audit members
    else if bytes_eq t (codes "drained") then bare printouts.Drained members
    else Err WrongValue

-- ---- steps that name a message

-- those that queue messages of their own, and `queue`
abbrev pub naming_steps : List (List ℕ)
naming_steps = codes "request" ∷ codes "repeat" ∷ codes "queue" ∷ codes "forge" ∷ codes "mangle" ∷ codes "raw" ∷ []

-- the name that a step of this kind gives
abbrev pub name_in : List NamedStep → List ℕ → Members → Result (Option (List ℕ)) TableFault
name_in earlier t members = if is_one_of naming_steps t then optional_key (new_name earlier) (codes "as") members else Ok None

-- ---- the names of steps

abbrev pub edit_name : QueueEdit → List ℕ
edit_name (edits.Drop filter) = codes "drop"
edit_name (edits.Repeat filter) = codes "repeat"
edit_name (edits.Mangle filter damage) = codes "mangle"
edit_name (edits.Raw to payload) = codes "raw"

abbrev pub printout_name : Printout → List ℕ
printout_name (printouts.Queue filter) = codes "queue"
printout_name printouts.Show = codes "show"
printout_name printouts.Digest = codes "digest"
printout_name (printouts.State id) = codes "state"
printout_name (printouts.Upgrade bytes) = codes "upgrade"
printout_name printouts.Audit = codes "audit"
printout_name printouts.Drained = codes "drained"

-- what the `do` of a step has
abbrev pub step_name : Step → List ℕ
step_name (steps.Request order) = codes "request"
step_name (steps.Deliver filter order) = codes "deliver"
step_name (steps.Timeout at) = codes "timeout"
step_name (steps.Forge forgery) = codes "forge"
step_name (steps.Edit edit) = edit_name edit
step_name (steps.Print printout) = printout_name printout
step_name (steps.Expect text) = codes "expect"
