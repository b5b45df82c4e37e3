-- Statement: the text of a map. An entry is a line, `entry KEY VALUE`: the key in 32 hex digits, the value in 64. In a text
-- that is read the word `entry` may be left out with its blank, digits are of either case, and lines stand in any order; no
-- key stands twice, and there are 4,096 lines at most.
use Rattle.std.specs.Prelude.{ℕ, ◌==◌, nat_lt, if◌then◌else◌, List, ◌∷◌, ◌++◌, [], length, take, drop, slice_index, flat_map, codes, Result, Ok, Err, bytes_eq}
use Rattle.std.specs.FinMap as map
use Rattle.std.specs.Str.Lines.{lines}
use Rattle.hex.specs.Hex.{decode_sized, encode_lower}
use Rattle.hex.specs.declared.FromHexError.{FromHexError}
use Rattle.tenant_maps.specs.Entries.{Entries}
use Rattle.code_commands.specs.declared.map_text.Entry.{Entry}
use Rattle.code_commands.specs.declared.map_text.MapKind.{MapKind}
use Rattle.code_commands.specs.declared.map_text.MapKind.TheVariants.{WrongLength, NotHex, KeyTwice, TooMany}
use Rattle.code_commands.specs.Folds.{folded}

-- The line of an entry, with its end.
abbrev pub line_of : List ℕ × List ℕ → List ℕ
line_of e = codes "entry " ++ encode_lower e.0 ++ 32 ∷ encode_lower e.1 ++ 10 ∷ []

-- The text of a map: the lines of its entries, by key ascending.
abbrev pub map_text : Entries → List ℕ
map_text entries = flat_map line_of (map.entries entries)

-- A line without the word `entry` and its blank.
abbrev pub body_of : List ℕ → List ℕ
body_of line = if bytes_eq (take 6 line) (codes "entry ") then drop 6 line else line

-- A key and a value, where both are hex.
abbrev pub entry_of_parts : Result (List ℕ) FromHexError → Result (List ℕ) FromHexError → Result Entry MapKind
entry_of_parts (Ok key) (Ok value) = Ok (record { key = key; value = value })
entry_of_parts (Ok key) (Err error) = Err NotHex
entry_of_parts (Err error) value = Err NotHex

-- 32 digits, a blank, 64 digits.
abbrev pub entry_of_body : List ℕ → Result Entry MapKind
entry_of_body body =
    if length body == 97
    then (if slice_index body 32 == 32
    then entry_of_parts (decode_sized (take 32 body) 16) (decode_sized (drop 33 body) 32)
    else Err WrongLength)
    else Err WrongLength

abbrev pub entry_of : List ℕ → Result Entry MapKind
entry_of line = entry_of_body (body_of line)

-- Entries with one more.
abbrev pub with_entry : Entries → Result Entry MapKind → Result Entries MapKind
with_entry entries (Err kind) = Err kind
with_entry entries (Ok e) =
    if map.contains_key entries e.key then Err KeyTwice
    else if nat_lt (map.len entries) 4096 then Ok (map.insert entries e.key e.value)
    else Err TooMany

abbrev pub with_line : Entries → List ℕ → Result Entries MapKind
with_line entries line = with_entry entries (entry_of line)

-- The map of a text, or its first fault and the number of the line.
abbrev pub map_of_text : List ℕ → Result Entries (MapKind × ℕ)
map_of_text text = folded with_line map.empty 1 (lines text)
