use Rattle.std.proofs.Common.{◌≡◌}
use Rattle.quorum_log.specs.Windows.{IsCleared}
use Rattle.quorum_log.proofs.window.Window.clear.Given as goal

abbrev pub invariant-loop-index : goal.invariant-loop-index
invariant-loop-index l = IsCleared l.index l.fn.self.numbers.items l.self.numbers.items × (l.self.low ≡ l.fn.self.low)
