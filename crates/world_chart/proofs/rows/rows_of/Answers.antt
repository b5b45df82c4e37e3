use Rattle.std.proofs.Common.{refl}
use Rattle.world_chart.proofs.Drawing.{all_rows, stands_more, still_within}
use Rattle.world_chart.proofs.rows.rows_of.Goals as goal

pub loop-happening-preserved : goal.loop-happening-preserved
loop-happening-preserved c = (
  still_within _ c.loop-happening.happening-index _ _ _ _ c.loop-happening.invariant.0 c.in_ok-take.ensures,
  stands_more c.args.happened.now c.loop-happening.happening-index _ _ _ _ _ _ c.loop-happening-test.true refl c.loop-happening.invariant.1 c.in_ok-take.ensures,
)

pub returns : goal.returns
returns c = all_rows c.args.happened.now c.loop-happening.happening-index _ _ _ c.loop-happening-test.false c.loop-happening.invariant.1 c.in_ok-unfold.ensures.rows
