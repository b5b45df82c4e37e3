use Rattle.std.proofs.Common.{◌≡◌, ◌≤◌, ℕ, length}
use Rattle.quorum_log.specs.Entering.{AreEntered, given_at}
use Rattle.quorum_log.proofs.window.Window.enter.Given as goal

abbrev pub invariant-loop-index : goal.invariant-loop-index
invariant-loop-index l =
    AreEntered l.index l.self.low.0 l.floor.0 l.view.0 l.messages l.fn.self.numbers.items l.self.numbers.items
    × (l.self.low ≡ l.fn.self.low)
    × (length l.given ≡ length l.fn.given)
    × ((i : ℕ) → l.index ≤ i → given_at l.given i ≡ given_at l.fn.given i)
