-- Statement: changed copies of messages, and raw bytes as messages.
use Rattle.std.specs.Prelude.{ℕ, ◌-◌, nat_le, nat_lt, List, length, find, take, slice_index, slice_set, bit_xor, bytes_eq, Option, Some, None, if◌then◌else◌}
use Rattle.std.specs.Option.{option_map}
use Rattle.script_text.specs.declared.script.Damage.{Damage}
use Rattle.script_text.specs.declared.script.Damage.TheVariants.{Cut, Flip}
use Rattle.script_text.specs.Node.TheVariants.{Replica}
use Rattle.script_text.specs.declared.script.Payload.{Payload}
use Rattle.script_text.specs.declared.script.Payload.TheVariants.{Bytes, Message}
use Rattle.world_queue.specs.declared.named.Named.{Named}
use Rattle.world_queue.specs.Letters.{LetterFacts}

-- ---- changed copies

-- without the last n bytes; as they are where there are fewer
abbrev pub cut : ℕ → List ℕ → List ℕ
cut n bytes = if nat_le n (length bytes) then take (length bytes - n) bytes else bytes

-- with the lowest bit of the byte at an index flipped
abbrev pub with_flipped : ℕ → List ℕ → List ℕ
with_flipped index bytes = slice_set bytes index (bit_xor (slice_index bytes index) 1)

-- the byte n places before the last one; none where there are no more than n
abbrev pub flipped : ℕ → List ℕ → List ℕ
flipped n bytes = if nat_lt n (length bytes) then with_flipped (length bytes - 1 - n) bytes else bytes

abbrev pub damaged : Damage → List ℕ → List ℕ
damaged (Cut n) bytes = cut n bytes
damaged (Flip n) bytes = flipped n bytes

-- as they are where no change is named
abbrev pub changed : Option Damage → List ℕ → List ℕ
changed None bytes = bytes
changed (Some damage) bytes = damaged damage bytes

-- a letter of the same sender, addressee and kind with changed bytes
abbrev pub mangled : Damage → LetterFacts → LetterFacts
mangled damage l = record l { bytes = damaged damage l.bytes }

-- ---- raw bytes

abbrev pub raw_letter : List ℕ → LetterFacts
raw_letter bytes = record { to = Replica (record { 0 = 0 }); from = None; kind = None; bytes = bytes }

-- the message of a name: none where the step that gives the name had none
abbrev pub message_named : List Named → List ℕ → Option LetterFacts
message_named messages name = option_map (λ (n : Named). n.letter) (find (λ (n : Named). bytes_eq n.name name) messages)

-- the bytes of a step, or those of a message with their change
abbrev pub payload_bytes : List Named → Payload → Option (List ℕ)
payload_bytes messages (Bytes bytes) = Some bytes
payload_bytes messages (Message name change) = option_map (λ (l : LetterFacts). changed change l.bytes) (message_named messages name)
