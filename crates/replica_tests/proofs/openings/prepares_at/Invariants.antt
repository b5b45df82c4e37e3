use Rattle.std.proofs.Common.{◌≡◌}
use Rattle.replica_tests.proofs.openings.prepares_at.Given as goal

abbrev pub invariant-loop-id : goal.invariant-loop-id
invariant-loop-id l = l.prepares.config ≡ l.fn.config.value
