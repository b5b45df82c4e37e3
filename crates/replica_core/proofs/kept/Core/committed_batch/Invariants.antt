use Rattle.std.proofs.Common.{◌≡◌, ◌+◌, ◌-◌, ◌%◌, ◌<◌, ◌^◌, false, length}
use Rattle.std.specs.Prelude.{◌==◌}
use Rattle.pbft_model.specs.Setup.{setup_of}
use Rattle.replica_core.specs.Batching.{IsBatch}
use Rattle.replica_core.proofs.kept.Core.committed_batch.Given as goal

abbrev pub invariant-loop-digest : goal.invariant-loop-digest
invariant-loop-digest l = record {
  batch : IsBatch (setup_of l.self.config) l.self.core l.self.core.executed l.digests.items;
  number : l.number ≡ l.self.core.executed + length l.digests.items;
  low : l.number < 2 ^ 48;
  between : 0 < length l.digests.items → (l.number % l.self.config.k == 0) ≡ false;
}

abbrev pub decreases-loop-digest : goal.decreases-loop-digest
decreases-loop-digest l = 2 ^ 48 - l.number
