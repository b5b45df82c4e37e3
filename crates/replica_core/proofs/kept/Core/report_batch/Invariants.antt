use Rattle.std.proofs.Common.{◌≡◌, drop, length}
use Rattle.replica_core.specs.Batching.{IsReporting}
use Rattle.replica_core.specs.Replicas.{KeptReplica}
use Rattle.replica_core.proofs.kept.Core.report_batch.Given as goal

abbrev pub invariant-loop-outcome : goal.invariant-loop-outcome
invariant-loop-outcome l = record {
  index : l.index ≡ length l.yielded;
  reporting : (k : KeptReplica) → IsReporting k l.fn.self 0 l.fn.digests l.fn.outcomes.items → IsReporting k l.self l.index (drop l.index l.fn.digests) (drop l.index l.fn.outcomes.items);
}
