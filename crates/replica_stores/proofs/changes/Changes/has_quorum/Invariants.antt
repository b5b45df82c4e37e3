use Rattle.std.proofs.Common.{◌≡◌, ◌≤◌}
use Rattle.pbft_model.specs.Setup.{count}
use Rattle.replica_stores.specs.Changes.{is_wanted}
use Rattle.replica_stores.proofs.changes.Changes.has_quorum.Given as goal

abbrev pub invariant-loop-id : goal.invariant-loop-id
invariant-loop-id l = record { counted : l.count ≡ count (is_wanted l.self.changes l.view.0) l.id; bound : l.count ≤ l.id }
