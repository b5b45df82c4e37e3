use Rattle.std.proofs.Common.{◌≡◌}
use Rattle.bench_replica.proofs.records.entries.record.Given as goal

abbrev pub invariant-loop-index : goal.invariant-loop-index
invariant-loop-index l = l.table.config ≡ l.fn.table.config
