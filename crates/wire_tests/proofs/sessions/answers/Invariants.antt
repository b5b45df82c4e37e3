use Rattle.std.proofs.Common.{◌≡◌}
use Rattle.wire_tests.proofs.sessions.answers.Given as goal

abbrev pub invariant-loop-line : goal.invariant-loop-line
invariant-loop-line l = l.session.config ≡ l.fn.config.value
