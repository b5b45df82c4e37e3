use Rattle.std.proofs.Common.{◌≡◌, ℕ, ◌≤◌, None}
use Rattle.quorum_log.specs.Slots.{number_here}
use Rattle.quorum_log.specs.Windows.{slots_at}
use Rattle.quorum_log.proofs.window.Window.greatest_in.Given as goal

abbrev pub invariant-loop-index : goal.invariant-loop-index
invariant-loop-index l = (i : ℕ) → l.index ≤ i → number_here (slots_at l.self.numbers.items i l.view.0) ≡ None
