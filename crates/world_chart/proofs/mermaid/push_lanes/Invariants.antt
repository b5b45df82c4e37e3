use Rattle.std.proofs.Common.{◌≡◌, ◌++◌, map, take}
use Rattle.std.specs.String.{string_bytes}
use Rattle.world_chart.specs.Diagrams.{participants}
use Rattle.world_chart.proofs.mermaid.push_lanes.Given as goal

abbrev pub invariant-loop-name : goal.invariant-loop-name
invariant-loop-name l =
    (l.lane ≡ l.name-index)
    × (string_bytes l.text ≡ string_bytes l.fn.text ++ participants 0 (map (λ name. string_bytes name) (take l.name-index l.names)))
