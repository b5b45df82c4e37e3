-- Statement: a chart of what happened, and its text.
use Rattle.std.specs.Prelude.{ℕ, List, map}
use Rattle.std.specs.String.{string_bytes}
use Rattle.world_chart.specs.Diagrams.{mermaid_text}
use Rattle.world_chart.specs.Rows.{AreRows}
use Rattle.world_chart.specs.declared.chart.Chart.{Chart}
use Rattle.world_lines.specs.declared.happening.Happening.{Happening}

-- Its rows show what happened.
abbrev pub Draws : Chart → List Happening → Type 0
Draws chart happened = AreRows happened chart.rows.items

-- as a sequence diagram of Mermaid
abbrev pub diagram_of : Chart → List ℕ
diagram_of chart = mermaid_text (map (λ name. string_bytes name) chart.lanes.names.items) chart.rows.items
