use Rattle.std.proofs.Common.{refl}
use Rattle.replica_core.proofs.Admitting.{checkpoint_taken}
use Rattle.replica_core.proofs.kept.Core.record_checkpoint.Goals as goal

pub returns-clause-recorded : goal.returns-clause-recorded
returns-clause-recorded c =
    checkpoint_taken _ _ _ c.self.invariant c.args.self.now c.args.message.now.message c.args.message.now.message.body c.note.new.table c.note.result c.self.view_is refl c.requires.kind c.note.ensures.noted
