use Rattle.std.proofs.Common.{◌≡◌}
use Rattle.replica_tests.proofs.log.pool.Given as goal

abbrev pub invariant-loop : goal.invariant-loop
invariant-loop l = l.pool.config ≡ l.fn.config.value

abbrev pub invariant-loop-drawn : goal.invariant-loop-drawn
invariant-loop-drawn l = l.pool.config ≡ l.fn.config.value
