use Rattle.std.proofs.Common.{rules}
use Rattle.replica_core.proofs.Snapshots.{reading_is}
use Rattle.replica_core.proofs.kept.Core.reading_in.Goals as goal

pub returns-in-Ok-clause-reading : goal.returns-in-Ok-clause-reading
returns-in-Ok-clause-reading c =
    reading_is c.args.self.now _ c.args.snapshot.now _ c.in-Ok.state c.if_at.result (search rules) c.as_slice.ensures c.in-Ok.ensures.state c.if_at.ensures
