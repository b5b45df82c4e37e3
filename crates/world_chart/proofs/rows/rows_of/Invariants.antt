use Rattle.std.proofs.Common.{◌≤◌, take}
use Rattle.world_chart.specs.Drawing.{Stand}
use Rattle.world_chart.proofs.rows.rows_of.Given as goal

abbrev pub invariant-loop-happening : goal.invariant-loop-happening
invariant-loop-happening l = (l.rows.folded ≤ l.happening-index) × Stand (take l.happening-index l.happened) l.rows.rows.items l.rows.folded
