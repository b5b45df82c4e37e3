use Rattle.std.proofs.Common.{◌≡◌, ℕ, length}
use Rattle.quorum_log.specs.Slots.{empty_slot}
use Rattle.quorum_log.specs.Windows.{slots_at}
use Rattle.quorum_log.proofs.window.Window.new.Given as goal

abbrev pub invariant-loop : goal.invariant-loop
invariant-loop l = (length l.numbers.items ≡ l.counter) × ((i v : ℕ) → slots_at l.numbers.items i v ≡ empty_slot)
