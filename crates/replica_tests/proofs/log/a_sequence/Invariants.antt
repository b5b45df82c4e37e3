use Rattle.std.proofs.Common.{◌≡◌}
use Rattle.replica_tests.proofs.log.a_sequence.Given as goal

abbrev pub invariant-loop : goal.invariant-loop
invariant-loop l = l.log.value.config ≡ l.fn.config.value
