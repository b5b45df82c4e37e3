use Rattle.std.proofs.Common.{◌≡◌}
use Rattle.replica_tests.proofs.stable.keep_each.Given as goal

abbrev pub invariant-loop-number : goal.invariant-loop-number
invariant-loop-number l = l.kept.config ≡ l.fn.kept.config
