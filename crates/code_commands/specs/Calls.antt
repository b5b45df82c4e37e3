-- Statement: the text of calls. A call is a line: its argument bytes in hex, with blanks where one likes; `@N` and a blank
-- before them name the client, who is another one where that is left out. An empty line is a call without arguments.
use Rattle.std.specs.Prelude.{ℕ, ◌^◌, ◌==◌, ◌||◌, Bool, nat_le, nat_lt, if◌then◌else◌, List, [], ◌∷◌, ◌++◌, length, take, drop, slice_index, not, filter, Option, Some, None, unwrap_or, Result, Ok, Err}
use Rattle.std.specs.List.{position}
use Rattle.std.specs.Str.Lines.{lines}
use Rattle.bpf_asm.specs.Operands.{numeral}
use Rattle.hex.specs.Hex.{decode_of}
use Rattle.hex.specs.declared.FromHexError.{FromHexError}
use Rattle.host_types.specs.declared.ClientId.{ClientId}
use Rattle.code_commands.specs.declared.call.Call.{Call}
use Rattle.code_commands.specs.declared.call_text.CallKind.{CallKind}
use Rattle.code_commands.specs.declared.call_text.CallKind.TheVariants.{BadClient, NotHex, TooLong}
use Rattle.code_commands.specs.Folds.{folded}

-- Blanks in hex: spaces, tabs and line ends.
abbrev pub is_blank : ℕ → Bool
is_blank b = (b == 32) || (b == 9) || (b == 13) || (b == 10)

-- A call as it is read: who calls, and with which bytes.
abbrev pub Said : Type 0
Said = ClientId × List ℕ

abbrev pub said : Call → Said
said call = (call.client, call.arguments.items)

-- A call with these bytes, if there are 256 at most.
abbrev pub called : ClientId → Result (List ℕ) FromHexError → Result Said CallKind
called client (Ok bytes) = if nat_le (length bytes) 256 then Ok (client, bytes) else Err TooLong
called client (Err error) = Err NotHex

abbrev pub called_with : ClientId → List ℕ → Result Said CallKind
called_with client digits = called client (decode_of (filter (λ b. not (is_blank b)) digits))

-- A call by the client of this number, which has 32 bits.
abbrev pub called_by : Option ℕ → List ℕ → Result Said CallKind
called_by None digits = Err BadClient
called_by (Some n) digits = if nat_lt n (2 ^ 32) then called_with (record { 0 = n }) digits else Err BadClient

-- Where a name ends: at the first blank, or where the text ends.
abbrev pub name_end : List ℕ → ℕ
name_end text = unwrap_or (position is_blank text) (length text)

-- The call of a line.
abbrev pub call_of : ClientId → List ℕ → Result Said CallKind
call_of client line =
    if slice_index line 0 == 64
    then called_by (numeral 10 (take (name_end (drop 1 line)) (drop 1 line))) (drop (name_end (drop 1 line)) (drop 1 line))
    else called_with client line

abbrev pub with_call : List Said → Result Said CallKind → Result (List Said) CallKind
with_call calls (Ok call) = Ok (calls ++ call ∷ [])
with_call calls (Err kind) = Err kind

abbrev pub with_line : ClientId → List Said → List ℕ → Result (List Said) CallKind
with_line client calls line = with_call calls (call_of client line)

-- The calls of a text, by this client where a line names none; or its first fault and the number of the line.
abbrev pub calls_of_text : ClientId → List ℕ → Result (List Said) (CallKind × ℕ)
calls_of_text client text = folded (with_line client) [] 1 (lines text)
