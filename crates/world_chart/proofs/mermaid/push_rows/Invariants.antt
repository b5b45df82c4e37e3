use Rattle.std.proofs.Common.{◌≡◌, ◌++◌, take}
use Rattle.std.specs.List.{flat_map}
use Rattle.std.specs.String.{string_bytes}
use Rattle.world_chart.specs.Diagrams.{row_line}
use Rattle.world_chart.proofs.mermaid.push_rows.Given as goal

abbrev pub invariant-loop-row : goal.invariant-loop-row
invariant-loop-row l = string_bytes l.text ≡ string_bytes l.fn.text ++ flat_map (λ row. row_line l.last row.shape (string_bytes row.words)) (take l.row-index l.rows)
