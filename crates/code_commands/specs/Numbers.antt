-- Statement: the bytes of a text of decimal numbers, blanks between them: 8 bytes of each, the least first.
use Rattle.std.specs.Prelude.{ℕ, ◌-◌, ◌%◌, ◌^◌, ◌==◌, nat_le, not, if◌then◌else◌, List, [], ◌++◌, length, drop, slice_index, Option, Some, None, Result, Ok, Err, filter}
use Rattle.std.specs.List.{slice_split}
use Rattle.std.specs.Int.{w64, to_le_bytes}
use Rattle.bpf_asm.specs.Operands.{numeral}
use Rattle.code_commands.specs.declared.decimal.NumberKind.{NumberKind}
use Rattle.code_commands.specs.declared.decimal.NumberKind.TheVariants.{NotNumber, TooMany}
use Rattle.code_commands.specs.Folds.{folded}

-- The words of a text, between blanks.
abbrev pub words : List ℕ → List (List ℕ)
words text = filter (λ word. not (length word == 0)) (slice_split (λ b. b == 32) text)

-- 64 bits of a number below zero of this magnitude, which is 2^63 at most.
abbrev pub negative : Option ℕ → Option ℕ
negative None = None
negative (Some m) = if nat_le m (2 ^ 63) then Some ((2 ^ 64 - m) % 2 ^ 64) else None

-- The 64 bits of the number that a word writes: decimal digits up to 2^64 - 1, or a minus and digits down to -2^63.
abbrev pub number_of : List ℕ → Option ℕ
number_of word = if slice_index word 0 == 45 then negative (numeral 10 (drop 1 word)) else numeral 10 word

-- Bytes and behind them those of one number more, 256 at most.
abbrev pub with_number : List ℕ → Option ℕ → Result (List ℕ) NumberKind
with_number bytes None = Err NotNumber
with_number bytes (Some n) = if nat_le (length bytes) 248 then Ok (bytes ++ to_le_bytes w64 n) else Err TooMany

abbrev pub with_word : List ℕ → List ℕ → Result (List ℕ) NumberKind
with_word bytes word = with_number bytes (number_of word)

-- The bytes of a text's numbers, or its first fault and which number it is.
abbrev pub bytes_of_numbers : List ℕ → Result (List ℕ) (NumberKind × ℕ)
bytes_of_numbers text = folded with_word [] 1 (words text)
