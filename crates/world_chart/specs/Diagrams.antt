-- Statement: the text of a sequence diagram of Mermaid.
use Rattle.std.specs.Prelude.{ℕ, ◌+◌, ◌-◌, ◌%◌, ◌==◌, List, [], ◌∷◌, ◌++◌, codes, decimal, flat_map, length, if◌then◌else◌}
use Rattle.std.specs.String.{string_bytes}
use Rattle.world_chart.specs.declared.rows.Row.{Row}
use Rattle.world_chart.specs.declared.rows.Shape.{Shape}
use Rattle.world_chart.specs.declared.rows.Shape.TheVariants as shapes

abbrev pub participant_line : ℕ → List ℕ → List ℕ
participant_line lane name = codes "    participant l" ++ (decimal lane ++ (codes " as " ++ (name ++ codes "\n")))

-- the lanes, from the one of this number on
abbrev pub participants : ℕ → List (List ℕ) → List ℕ
participants lane [] = []
participants lane (name ∷ names) = participant_line lane name ++ participants (lane + 1) names

-- a message from lane to lane
abbrev pub message_line : ℕ → List ℕ → ℕ → List ℕ → List ℕ
message_line from arrow to words = codes "    l" ++ (decimal from ++ (arrow ++ (decimal to ++ (codes ": " ++ (words ++ codes "\n")))))

abbrev pub note_line : ℕ → List ℕ → List ℕ
note_line lane words = codes "    Note over l" ++ (decimal lane ++ (codes ": " ++ (words ++ codes "\n")))

-- over all lanes
abbrev pub wide_line : ℕ → List ℕ → List ℕ
wide_line last words = codes "    Note over l0,l" ++ (decimal last ++ (codes ": " ++ (words ++ codes "\n")))

abbrev pub shade : ℕ → List ℕ
shade view = if view % 2 == 0 then codes "238, 244, 255" else codes "255, 246, 230"

-- the ground of another view
abbrev pub view_lines : ℕ → List ℕ → ℕ → List ℕ
view_lines last words view = codes "    end\n    rect rgb(" ++ (shade view ++ (codes ")\n" ++ wide_line last words))

abbrev pub row_line : ℕ → Shape → List ℕ → List ℕ
row_line last (shapes.Arrow from to) words = message_line from (codes "->>l") to words
row_line last (shapes.Cross from to) words = message_line from (codes "-xl") to words
row_line last (shapes.Note lane) words = note_line lane words
row_line last (shapes.Alarm lane) words = note_line lane words
row_line last shapes.Fold words = wide_line last words
row_line last shapes.Step words = wide_line last words
row_line last (shapes.View view) words = view_lines last words view.0

abbrev pub mermaid_text : List (List ℕ) → List Row → List ℕ
mermaid_text names rows =
    codes "sequenceDiagram\n" ++ (participants 0 names ++ (codes "    rect rgb(238, 244, 255)\n"
    ++ (flat_map (λ (r : Row). row_line (length names - 1) r.shape (string_bytes r.words)) rows ++ codes "    end\n")))
