use Rattle.std.proofs.Common.{◌≡◌}
use Rattle.bench_replica.proofs.records.votes.votes.Given as goal

abbrev pub invariant-loop-below : goal.invariant-loop-below
invariant-loop-below l = l.votes.config ≡ l.fn.config.value

abbrev pub invariant-loop-commits : goal.invariant-loop-commits
invariant-loop-commits l = l.votes.config ≡ l.fn.config.value

abbrev pub invariant-loop-id : goal.invariant-loop-id
invariant-loop-id l = l.votes.config ≡ l.fn.config.value
