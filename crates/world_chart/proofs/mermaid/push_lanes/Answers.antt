use Rattle.std.proofs.Common.{◌≡◌, ◌+◌, ◌++◌, ap, rules}
use Rattle.std.specs.Prelude.{ℕ}
use Rattle.std.specs.String.{string_bytes}
use Rattle.world_chart.specs.Diagrams.{participant_line}
use Rattle.world_chart.proofs.Diagrams.{lane_more}
use Rattle.world_chart.proofs.mermaid.push_lanes.Goals as goal

pub loop-name-preserved : goal.loop-name-preserved
loop-name-preserved c =
    let more : string_bytes c.push_str.new.self ≡ string_bytes c.loop-name.text ++ participant_line c.loop-name.lane (string_bytes c.name-item.result) = search rules in (
      ap (λ (n : ℕ). n + 1) c.loop-name.invariant.0,
      lane_more c.args.names.now c.loop-name.name-index c.name-item.result c.loop-name.lane _ _ _ c.loop-name-test.true c.name-item.is c.loop-name.invariant.0 c.loop-name.invariant.1 more,
    )
