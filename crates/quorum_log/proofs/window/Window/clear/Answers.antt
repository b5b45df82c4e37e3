use Rattle.std.proofs.Common.{arith}
use Rattle.quorum_log.proofs.Windows.{cleared_next}
use Rattle.quorum_log.proofs.window.Window.clear.Goals as goal

pub loop-index-preserved : goal.loop-index-preserved
loop-index-preserved c = (
  cleared_next c.loop-index.index c.args.self.now.numbers.items c.loop-index.self.numbers.items c.clear.new.self (omega (arith, c.loop-index-test.true, c.requires)) c.clear.ensures c.loop-index.invariant.0,
  c.loop-index.invariant.1,
)
