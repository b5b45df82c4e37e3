use Rattle.std.proofs.Common.{◌≡◌}
use Rattle.replica_tests.proofs.answers.three_changes.Given as goal

abbrev pub invariant-loop-id : goal.invariant-loop-id
invariant-loop-id l = l.list.config ≡ l.fn.config.value
