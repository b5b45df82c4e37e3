use Rattle.std.proofs.Common.{◌≡◌}
use Rattle.replica_tests.proofs.stable.answers.Given as goal

abbrev pub invariant-loop-line : goal.invariant-loop-line
invariant-loop-line l = l.kept.config ≡ l.fn.config.value
