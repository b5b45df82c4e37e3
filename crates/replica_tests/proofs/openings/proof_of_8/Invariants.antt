use Rattle.std.proofs.Common.{◌≡◌}
use Rattle.replica_tests.proofs.openings.proof_of_8.Given as goal

abbrev pub invariant-loop-id : goal.invariant-loop-id
invariant-loop-id l = l.list.config ≡ l.fn.config.value
