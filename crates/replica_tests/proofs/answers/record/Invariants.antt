use Rattle.std.proofs.Common.{◌≡◌}
use Rattle.replica_tests.proofs.answers.record.Given as goal

abbrev pub invariant-loop-line : goal.invariant-loop-line
invariant-loop-line l = l.log.config ≡ l.fn.config.value
