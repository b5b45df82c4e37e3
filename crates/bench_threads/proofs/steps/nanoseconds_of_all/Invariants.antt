use Rattle.std.proofs.Common.{◌≡◌}
use Rattle.bench_threads.proofs.steps.nanoseconds_of_all.Given as goal

abbrev pub invariant-loop-message : goal.invariant-loop-message
invariant-loop-message g l = l.replica.config ≡ l.config.value
