use Rattle.std.proofs.Common.{◌≡◌, length}
use Rattle.quorum_log.specs.Entering.{ArePrepared}
use Rattle.quorum_log.specs.Windows.{HaveSameWindows}
use Rattle.quorum_log.proofs.window.Window.prepare.Given as goal

abbrev pub invariant-loop-index : goal.invariant-loop-index
invariant-loop-index l =
    HaveSameWindows l.fn.self.numbers.items l.self.numbers.items
    × (length l.self.numbers.items ≡ length l.fn.self.numbers.items)
    × (l.self.low ≡ l.fn.self.low)
    × ArePrepared l.index l.self.low.0 l.floor.0 l.view.0 l.messages l.given.items l.self.numbers.items
