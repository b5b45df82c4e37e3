use Rattle.std.proofs.Common.{◌≡◌, ℕ, ◌<◌, false}
use Rattle.quorum_log.specs.Slots.{is_named}
use Rattle.quorum_log.specs.Windows.{slots_at}
use Rattle.quorum_log.proofs.window.Window.names.Given as goal

abbrev pub invariant-loop-view_slots : goal.invariant-loop-view_slots
invariant-loop-view_slots l = (i v : ℕ) → i < l.view_slots-index → is_named l.digest.0 (slots_at l.self.numbers.items i v) ≡ false
