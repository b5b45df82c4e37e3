use Rattle.std.proofs.Common.{◌≡◌, ◌≤◌}
use Rattle.std.specs.FinSet as set
use Rattle.pbft_model.specs.Setup.{count}
use Rattle.replica_stores.proofs.changes.Changes.to_join.Given as goal

abbrev pub invariant-loop-id : goal.invariant-loop-id
invariant-loop-id l = record { counted : l.count ≡ count (set.contains l.signers) l.id; bound : l.count ≤ l.id }
