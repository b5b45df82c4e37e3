-- Statement: the parts of an assembler text: blanks, comments, words, names and the texts of operands. A text is its
-- bytes; its lines are those of `Rattle.std.specs.Str.Lines`: each ends at LF or CR LF, the last also at the text's end.
use Rattle.std.specs.Prelude.{ℕ, ◌-◌, ◌==◌, Bool, ◌&&◌, ◌||◌, nat_le, if◌then◌else◌, List, [], ◌∷◌, length, take, drop, slice_index, map, reverse, Option, Some, None}
use Rattle.std.specs.List.{list_all, before_first, slice_split}

-- Space or tab.
abbrev pub is_blank : ℕ → Bool
is_blank b = (b == 32) || (b == 9)

abbrev pub trim_start : List ℕ → List ℕ
trim_start [] = []
trim_start (b ∷ bs) = if is_blank b then trim_start bs else b ∷ bs

-- A text without the blanks at its ends.
abbrev pub trim : List ℕ → List ℕ
trim text = reverse (trim_start (reverse (trim_start text)))

-- A line without its comment, which begins at `;`, and without the blanks at its ends.
abbrev pub body_of : List ℕ → List ℕ
body_of line = trim (before_first (λ b. b == 59) line)

-- What ends a word: a blank, a comma or a bracket.
abbrev pub ends_word : ℕ → Bool
ends_word b = is_blank b || (b == 44) || (b == 91) || (b == 93)

-- The word that a line begins with.
abbrev pub first_word : List ℕ → List ℕ
first_word body = before_first ends_word body

-- What stands behind the word.
abbrev pub behind_word : List ℕ → List ℕ
behind_word body = trim (drop (length (first_word body)) body)

-- The texts between commas, without the blanks at their ends.
abbrev pub pieces : List ℕ → List (List ℕ)
pieces text = map trim (slice_split (λ b. b == 44) text)

-- The texts of the operands: none where nothing stands behind the word.
abbrev pub operand_texts : List ℕ → List (List ℕ)
operand_texts text = if length text == 0 then [] else pieces text

abbrev pub last_text : List (List ℕ) → List ℕ
last_text [] = []
last_text (x ∷ []) = x
last_text (x ∷ y ∷ more) = last_text (y ∷ more)

abbrev pub is_digit : ℕ → Bool
is_digit b = nat_le 48 b && nat_le b 57

abbrev pub is_letter : ℕ → Bool
is_letter b = (nat_le 65 b && nat_le b 90) || (nat_le 97 b && nat_le b 122)

abbrev pub is_name_byte : ℕ → Bool
is_name_byte b = is_letter b || is_digit b || (b == 95)

-- A label's name: letters, digits and `_`, a letter first.
abbrev pub is_name : List ℕ → Bool
is_name text = is_letter (slice_index text 0) && list_all is_name_byte text

-- The name of a line that is a label: `name:` alone.
abbrev pub label_name : List ℕ → Option (List ℕ)
label_name body =
    let name = take (length body - 1) body in
    if (slice_index body (length body - 1) == 58) && is_name name then Some name else None
