-- Statement: what a script's values may be, and how the keys of a table are read.
use Rattle.std.specs.Prelude.{codes, find, flat_map, length, slice_get, [], ◌∷◌, ◌++◌, ◌-◌, Vec, ℕ, ℤ, pos, negsuc, ◌==◌, ◌&&◌, ◌||◌, Bool, true, false, nat_le, nat_lt, List, Option, Some, None, Result, Ok, Err, filter, not, if◌then◌else◌, bytes_eq}
use Rattle.std.specs.Int.{to_le_bytes, w64}
use Rattle.std.specs.List.{list_any}
use Rattle.std.specs.Option.{ok_or, option_map}
use Rattle.bpf_asm.specs.Assembly.{assembly}
use Rattle.bpf_asm.specs.declared.fault.AsmFault.{AsmFault}
use Rattle.bpf_decode.specs.Encoding.{encoding}
use Rattle.bpf_decode.specs.declared.insn.Insn.{Insn}
use Rattle.hex.specs.Hex.{decode_of, decode_sized}
use Rattle.hex.specs.declared.FromHexError.{FromHexError}
use Rattle.host_types.specs.declared.ReplicaId.{ReplicaId}
use Rattle.lms_tree.specs.declared.Height.{Height}
use Rattle.lms_tree.specs.declared.Height.TheVariants.{H5, H10}
use Rattle.std.specs.declared.alloc.Global.{Global}
use Rattle.toml.specs.Data.{Data, Items, Members, no_items, item, no_members, member, as_array, as_bool, as_integer, as_str, as_table, get_member}
use Rattle.seal.specs.declared.vote.VoteKind.TheVariants as votes
use Rattle.host_types.specs.declared.ClientId.{ClientId}
use Rattle.host_types.specs.declared.Digest.{Digest}
use Rattle.host_types.specs.declared.SeqNo.{SeqNo}
use Rattle.script_values.specs.declared.kind.Kind.{Kind}
use Rattle.script_values.specs.declared.kind.Kind.TheVariants as kinds
use Rattle.script_values.specs.declared.said.Client.{Client}
use Rattle.script_values.specs.declared.said.InstallProfile.{InstallProfile}
use Rattle.script_values.specs.declared.said.InstallProfile.TheVariants as profiles
use Rattle.script_values.specs.declared.said.Node.{Node}
use Rattle.script_values.specs.declared.said.Node.TheVariants as nodes
use Rattle.script_values.specs.declared.said.Secret.{Secret}
use Rattle.script_values.specs.declared.values.ForgedKind.{ForgedKind}
use Rattle.script_values.specs.declared.values.ForgedKind.TheVariants as forged
use Rattle.script_values.specs.declared.fault.TableFault.{TableFault}
use Rattle.script_values.specs.declared.fault.TableFault.TheVariants.{MissingKey, WrongValue, UnknownKey}
use Rattle.script_values.specs.Faults.{least}

-- ---- keys

-- the value of a key that must be there
abbrev pub at_needed : {A : Type 0} → (Data → Result A TableFault) → Option Data → Result A TableFault
at_needed reads None = Err MissingKey
at_needed reads (Some d) = reads d

abbrev pub needed_key : {A : Type 0} → (Data → Result A TableFault) → List ℕ → Members → Result A TableFault
needed_key reads key members = at_needed reads (get_member key members)

-- the value of a key that may be left out
abbrev pub given : {A : Type 0} → Result A TableFault → Result (Option A) TableFault
given (Ok x) = Ok (Some x)
given (Err fault) = Err fault

abbrev pub at_optional : {A : Type 0} → (Data → Result A TableFault) → Option Data → Result (Option A) TableFault
at_optional reads None = Ok None
at_optional reads (Some d) = given (reads d)

abbrev pub optional_key : {A : Type 0} → (Data → Result A TableFault) → List ℕ → Members → Result (Option A) TableFault
optional_key reads key members = at_optional reads (get_member key members)

-- two readings as one: of two faults the lesser
abbrev pub pair_of : {A B : Type 0} → Result A TableFault → Result B TableFault → Result (A × B) TableFault
pair_of (Ok x) (Ok y) = Ok (x, y)
pair_of (Ok x) (Err fault) = Err fault
pair_of (Err fault) (Ok y) = Err fault
pair_of (Err first) (Err second) = Err (least first second)

abbrev pub is_one_of : List (List ℕ) → List ℕ → Bool
is_one_of keys key = list_any (bytes_eq key) keys

-- each key of a table is one of these
abbrev pub has_only : List (List ℕ) → Members → Bool
has_only keys no_members = true
has_only keys (member k d members) = is_one_of keys k && has_only keys members

abbrev pub unless_other : {A : Type 0} → Result A TableFault → Bool → Result A TableFault
unless_other (Ok x) true = Ok x
unless_other (Ok x) false = Err UnknownKey
unless_other (Err fault) true = Err fault
unless_other (Err fault) false = Err (least fault UnknownKey)

-- a reading of a table that has no other keys than these
abbrev pub only_keys : {A : Type 0} → Result A TableFault → List (List ℕ) → Members → Result A TableFault
only_keys reading keys members = unless_other reading (has_only keys members)

-- A reading where this is wrong, besides what is wrong with it.
abbrev pub wrong_where : {A : Type 0} → Bool → Result A TableFault → Result A TableFault
wrong_where false reading = reading
wrong_where true (Ok x) = Err WrongValue
wrong_where true (Err fault) = Err (least fault WrongValue)

-- A reading where a key is unknown, besides what is wrong with it.
abbrev pub unknown_where : {A : Type 0} → Bool → Result A TableFault → Result A TableFault
unknown_where false reading = reading
unknown_where true (Ok x) = Err UnknownKey
unknown_where true (Err fault) = Err (least fault UnknownKey)

-- ---- values

-- what an accessor finds, read on
abbrev pub if_found : {A B : Type 0} → (A → Result B TableFault) → Option A → Result B TableFault
if_found reads None = Err WrongValue
if_found reads (Some x) = reads x

abbrev pub integer : Data → Result ℤ TableFault
integer d = if_found Ok (as_integer d)

-- an integer from 0 to this one
abbrev pub bounded : ℕ → ℤ → Result ℕ TableFault
bounded top (pos n) = if nat_le n top then Ok n else Err WrongValue
bounded top (negsuc n) = Err WrongValue

abbrev pub up_to : ℕ → Data → Result ℕ TableFault
up_to top d = if_found (bounded top) (as_integer d)

abbrev pub numbered : Result ℕ TableFault → Result SeqNo TableFault
numbered (Ok n) = Ok (record { 0 = n })
numbered (Err fault) = Err fault

abbrev pub sequence_number : Data → Result SeqNo TableFault
sequence_number d = numbered (up_to 281474976710655 d)

abbrev pub true_alone : Bool → Result (Unit {0}) TableFault
true_alone true = Ok tt
true_alone false = Err WrongValue

abbrev pub yes : Data → Result (Unit {0}) TableFault
yes d = if_found true_alone (as_bool d)

-- 5 or 10
abbrev pub height_of : ℤ → Result Height TableFault
height_of (pos n) = if n == 5 then Ok H5 else (if n == 10 then Ok H10 else Err WrongValue)
height_of (negsuc n) = Err WrongValue

abbrev pub height : Data → Result Height TableFault
height d = if_found height_of (as_integer d)

-- the height of bottom trees, 5 or 10; none for 0
abbrev pub bottom_of : ℤ → Result (Option Height) TableFault
bottom_of (pos n) = if n == 0 then Ok None else (if n == 5 then Ok (Some H5) else (if n == 10 then Ok (Some H10) else Err WrongValue))
bottom_of (negsuc n) = Err WrongValue

abbrev pub bottom : Data → Result (Option Height) TableFault
bottom d = if_found bottom_of (as_integer d)

-- the number of a profile of the verifier, 1 or 2
abbrev pub profile_of : ℤ → Result InstallProfile TableFault
profile_of (pos n) = if n == 1 then Ok profiles.One else (if n == 2 then Ok profiles.Two else Err WrongValue)
profile_of (negsuc n) = Err WrongValue

abbrev pub profile : Data → Result InstallProfile TableFault
profile d = if_found profile_of (as_integer d)

-- 64 hex digits
abbrev pub decoded_secret : Result (List ℕ) FromHexError → Result Secret TableFault
decoded_secret (Ok bytes) = Ok (record { 0 = bytes })
decoded_secret (Err error) = Err WrongValue

abbrev pub secret : Data → Result Secret TableFault
secret d = if_found (λ text. decoded_secret (decode_sized text 32)) (as_str d)

abbrev pub decoded_digest : Result (List ℕ) FromHexError → Result Digest TableFault
decoded_digest (Ok bytes) = Ok (record { 0 = bytes })
decoded_digest (Err error) = Err WrongValue

abbrev pub digest : Data → Result Digest TableFault
digest d = if_found (λ text. decoded_digest (decode_sized text 32)) (as_str d)

-- spaces, tabs and line ends are passed over; no script has digits of more than 524,288 bytes
abbrev pub is_blank : ℕ → Bool
is_blank b = (b == 32) || ((b == 9) || ((b == 13) || (b == 10)))

abbrev pub decoded_bytes : Result (List ℕ) FromHexError → Result (List ℕ) TableFault
decoded_bytes (Ok bytes) = if nat_le (length bytes) 524288 then Ok bytes else Err WrongValue
decoded_bytes (Err error) = Err WrongValue

abbrev pub hex_text : List ℕ → Result (List ℕ) TableFault
hex_text text = decoded_bytes (decode_of (filter (λ b. not (is_blank b)) text))

abbrev pub hex_bytes : Data → Result (List ℕ) TableFault
hex_bytes d = if_found hex_text (as_str d)

-- an assembler text, as the code that it is; at most 524,288 bytes
abbrev pub assembled : Result (List Insn) AsmFault → Result (List ℕ) TableFault
assembled (Ok code) = if nat_le (length (encoding code)) 524288 then Ok (encoding code) else Err WrongValue
assembled (Err fault) = Err WrongValue

abbrev pub assembler_code : List ℕ → Result (List ℕ) TableFault
assembler_code text = assembled (assembly text)

abbrev pub assembler_text : Data → Result (List ℕ) TableFault
assembler_text d = if_found assembler_code (as_str d)

-- a replica among so many, by its index
abbrev pub replica_of : ℕ → ℤ → Result ReplicaId TableFault
replica_of count (pos n) = if nat_lt n count then Ok (record { 0 = n }) else Err WrongValue
replica_of count (negsuc n) = Err WrongValue

abbrev pub replica : ℕ → Data → Result ReplicaId TableFault
replica count d = if_found (replica_of count) (as_integer d)

-- ---- names

abbrev pub kind_named : List ℕ → Option Kind
kind_named t =
    if bytes_eq t (codes "request") then Some kinds.Request
    else if bytes_eq t (codes "pre-prepare") then Some kinds.PrePrepare
    else if bytes_eq t (codes "prepare") then Some kinds.Prepare
    else if bytes_eq t (codes "commit") then Some kinds.Commit
    else if bytes_eq t (codes "reply") then Some kinds.Reply
    else if bytes_eq t (codes "checkpoint") then Some kinds.Checkpoint
    else if bytes_eq t (codes "view-change") then Some kinds.ViewChange
    else if bytes_eq t (codes "new-view") then Some kinds.NewView
    else if bytes_eq t (codes "fetch") then Some kinds.Fetch
    else if bytes_eq t (codes "snapshot") then Some kinds.Snapshot
    else None

abbrev pub forged_kind_named : List ℕ → Option ForgedKind
forged_kind_named t =
    if bytes_eq t (codes "pre-prepare") then Some (forged.Vote votes.PrePrepare)
    else if bytes_eq t (codes "prepare") then Some (forged.Vote votes.Prepare)
    else if bytes_eq t (codes "commit") then Some (forged.Vote votes.Commit)
    else if bytes_eq t (codes "checkpoint") then Some forged.Checkpoint
    else if bytes_eq t (codes "view-change") then Some forged.ViewChange
    else None

abbrev pub kind_name : Data → Result Kind TableFault
kind_name d = if_found (λ t. ok_or (kind_named t) WrongValue) (as_str d)

abbrev pub forged_kind : Data → Result ForgedKind TableFault
forged_kind d = if_found (λ t. ok_or (forged_kind_named t) WrongValue) (as_str d)

-- ---- who is named

-- what a number says, if there is one
abbrev pub if_number : {A : Type 0} → (ℕ → Option A) → Result ℕ TableFault → Result A TableFault
if_number named (Ok n) = ok_or (named n) WrongValue
if_number named (Err fault) = Err fault

-- one of these faulty replicas
abbrev pub faulty_named : List ReplicaId → ℕ → Option ReplicaId
faulty_named faulty n = find (λ replica. replica.0 == n) faulty

abbrev pub faulty_index : List ReplicaId → Data → Result ReplicaId TableFault
faulty_index faulty d = if_number (faulty_named faulty) (up_to 4294967295 d)

-- one of these clients
abbrev pub client_named : List Client → ℕ → Option ClientId
client_named clients n = option_map (λ client. client.id) (find (λ client. client.id.0 == n) clients)

abbrev pub client_name : List Client → Data → Result ClientId TableFault
client_name clients d = if_number (client_named clients) (up_to 4294967295 d)

-- a replica where there is one of the index, else a client
abbrev pub or_client : Result ReplicaId TableFault → Result ClientId TableFault → Result Node TableFault
or_client (Ok replica) client = Ok (nodes.Replica replica)
or_client (Err fault) (Ok client) = Ok (nodes.Client client)
or_client (Err fault) (Err other) = Err other

abbrev pub node : ℕ → List Client → Data → Result Node TableFault
node count clients d = or_client (replica count d) (client_name clients d)

-- ---- lists and tables

-- a list with one entry more: of two faults the lesser
abbrev pub with_last : {A : Type 0} → Result (List A) TableFault → Result A TableFault → Result (List A) TableFault
with_last (Ok xs) (Ok x) = Ok (xs ++ x ∷ [])
with_last (Ok xs) (Err fault) = Err fault
with_last (Err fault) (Ok x) = Err fault
with_last (Err first) (Err second) = Err (least first second)

-- a list, and behind it what each of these items says
abbrev pub each_from : {A : Type 0} → (Data → Result A TableFault) → Result (List A) TableFault → Items → Result (List A) TableFault
each_from reads read no_items = read
each_from reads read (item d ds) = each_from reads (with_last read (reads d)) ds

abbrev pub list_of : {A : Type 0} → (Data → Result A TableFault) → Data → Result (List A) TableFault
list_of reads d = if_found (each_from reads (Ok [])) (as_array d)

-- a vector that was read, as a list
abbrev pub items_in : {A : Type 0} → Result (Vec A Global) TableFault → Result (List A) TableFault
items_in (Ok v) = Ok v.items
items_in (Err fault) = Err fault

-- a list of so many entries, of any number where none is known
abbrev pub if_so_many : {A : Type 0} → Option ℕ → Result (List A) TableFault → Result (List A) TableFault
if_so_many None r = r
if_so_many (Some count) (Ok xs) = if length xs == count then Ok xs else Err WrongValue
if_so_many (Some count) (Err fault) = Err fault

abbrev pub per_replica : {A : Type 0} → Option ℕ → (Data → Result A TableFault) → Data → Result (List A) TableFault
per_replica count reads d = if_so_many count (list_of reads d)

-- numbers as bytes, 8 for each, the least significant first; at most 524,288 bytes in all
abbrev pub packed : List ℕ → List ℕ
packed ns = flat_map (λ n. to_le_bytes w64 n) ns

abbrev pub packed_from : Result (List ℕ) TableFault → Result (List ℕ) TableFault
packed_from (Ok ns) = if nat_le (length (packed ns)) 524288 then Ok (packed ns) else Err WrongValue
packed_from (Err fault) = Err fault

abbrev pub numbers : Data → Result (List ℕ) TableFault
numbers d = packed_from (list_of (up_to 9223372036854775807) d)

-- at most 65,536 numbers
abbrev pub choices_from : Result (List ℕ) TableFault → Result (List ℕ) TableFault
choices_from (Ok ns) = if nat_le (length ns) 65536 then Ok ns else Err WrongValue
choices_from (Err fault) = Err fault

abbrev pub choices : Data → Result (List ℕ) TableFault
choices d = choices_from (list_of (up_to 9223372036854775807) d)

abbrev pub any_table : Data → Result (Unit {0}) TableFault
any_table d = if_found (λ members. Ok tt) (as_table d)

-- ---- printed lines

abbrev pub text : Data → Result (List ℕ) TableFault
text d = if_found Ok (as_str d)

-- whether a text with this last byte has an end behind its last line
abbrev pub is_ended : Option ℕ → Bool
is_ended None = true
is_ended (Some b) = b == 10

abbrev pub ended : List ℕ → List ℕ
ended t = if is_ended (slice_get t (length t - 1)) then t else t ++ 10 ∷ []

-- strings as the lines of a text
abbrev pub joined : List (List ℕ) → List ℕ
joined ts = flat_map (λ t. t ++ 10 ∷ []) ts

abbrev pub joined_from : Result (List (List ℕ)) TableFault → Result (List ℕ) TableFault
joined_from (Ok ts) = Ok (joined ts)
joined_from (Err fault) = Err fault

abbrev pub lines_from : Option (List ℕ) → Data → Result (List ℕ) TableFault
lines_from (Some t) d = Ok (ended t)
lines_from None d = joined_from (list_of text d)

-- a text, or a list of strings, each a line
abbrev pub lines : Data → Result (List ℕ) TableFault
lines d = lines_from (as_str d) d
