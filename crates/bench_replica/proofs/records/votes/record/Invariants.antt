use Rattle.std.proofs.Common.{◌≡◌}
use Rattle.bench_replica.proofs.records.votes.record.Given as goal

abbrev pub invariant-loop-index : goal.invariant-loop-index
invariant-loop-index l = l.log.config ≡ l.fn.log.config
