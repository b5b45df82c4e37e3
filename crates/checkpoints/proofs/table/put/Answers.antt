use Rattle.checkpoints.proofs.Changes.{snapshot_put}
use Rattle.checkpoints.proofs.table.put.Goals as goal

pub returns-clause-kept : goal.returns-clause-kept
returns-clause-kept c = snapshot_put c.args.snapshots.now c.insert.new.self c.args.number.0 c.args.snapshot c.in_ok-insert.ensures.updates.0
