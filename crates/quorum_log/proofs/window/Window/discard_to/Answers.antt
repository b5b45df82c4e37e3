use Rattle.std.proofs.Common.{refl, ◌-◌, arith}
use Rattle.quorum_log.proofs.Windows.{moved_up}
use Rattle.quorum_log.proofs.window.Window.discard_to.Goals as goal

pub returns-then-number-self-clause-above : goal.returns-then-number-self-clause-above
returns-then-number-self-clause-above c = λ lt. (
  refl,
  moved_up c.args.self.now.numbers.items c.clear.new.self.numbers.items c.rotate_left.new.self.items c.fewer-gone.result (c.args.number.0 - c.args.self.now.low.0) c.len.result
      c.clear.ensures.cleared c.rotate_left.ensures.items (omega (arith, c.len.ensures)) c.fewer-gone.ensures.value,
)
