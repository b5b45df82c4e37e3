-- Statement: what the rows of a chart show of what happened: each thing once and in order.
use Rattle.std.specs.Prelude.{◌≡◌, ℕ, ◌<◌, Bool, true, false, List, [], ◌∷◌, ◌++◌, All, codes, count_by, decimal, ◌⊎◌}
use Rattle.std.specs.String.{string_bytes}
use Rattle.std.specs.Str.{trim_end}
use Rattle.world_chart.specs.declared.rows.Row.{Row}
use Rattle.world_chart.specs.declared.rows.Shape.{Shape}
use Rattle.world_chart.specs.declared.rows.Shape.TheVariants as shapes
use Rattle.world_lines.specs.Lines.{happening_line, saying_words}
use Rattle.world_lines.specs.declared.happening.Happening.{Happening}
use Rattle.world_lines.specs.declared.happening.Happening.TheVariants as happens

abbrev pub is_message : Happening → Bool
is_message (happens.Handed from to saying) = true
is_message (happens.Lost from to saying) = true
is_message _ = false

abbrev pub is_accepted : Happening → Bool
is_accepted (happens.Accepted client) = true
is_accepted _ = false

-- The words are the end of a line.
abbrev pub IsEnd : List ℕ → List ℕ → Type 0
IsEnd words line = (front : List ℕ) × (line ≡ front ++ words)

-- The words of what happens: what a message says; of anything else the end of its line, but of an accepted reply what it says.
abbrev pub Says : Happening → List ℕ → Type 0
Says (happens.Handed from to saying) words = words ≡ saying_words saying
Says (happens.Lost from to saying) words = words ≡ saying_words saying
Says (happens.Accepted client) words = Unit {0}
Says h words = IsEnd words (trim_end (happening_line h))

-- A row shows this: one thing; or many messages, with the replies that clients accepted among them; or, of itself, that a view begins.
abbrev pub Shows : List Happening → Shape → List ℕ → Type 0
Shows hs shapes.Fold words =
    (0 < count_by is_message hs) × All (λ h. (is_message h ≡ true) ⊎ (is_accepted h ≡ true)) hs
    × ((rest : List ℕ) × (words ≡ decimal (count_by is_message hs) ++ (codes " message" ++ rest)))
Shows hs (shapes.View view) words = (hs ≡ []) × (words ≡ codes "view " ++ decimal view.0)
Shows hs shape words = (h : Happening) × (hs ≡ h ∷ []) × Says h words

-- The rows show all that happened, one after another.
abbrev pub AreRows : List Happening → List Row → Type 0
AreRows hs [] = hs ≡ []
AreRows hs (r ∷ rs) = (front rest : List Happening) × (hs ≡ front ++ rest) × Shows front r.shape (string_bytes r.words) × AreRows rest rs
