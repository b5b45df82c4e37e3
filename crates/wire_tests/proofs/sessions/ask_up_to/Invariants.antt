use Rattle.std.proofs.Common.{◌≡◌}
use Rattle.wire_tests.proofs.sessions.ask_up_to.Given as goal

abbrev pub invariant-loop-time : goal.invariant-loop-time
invariant-loop-time l = l.session.config ≡ l.fn.session.config
