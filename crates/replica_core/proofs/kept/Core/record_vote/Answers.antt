use Rattle.replica_core.proofs.Admitting.{taken_in}
use Rattle.replica_core.proofs.kept.Core.record_vote.Goals as goal

pub returns-clause-recorded : goal.returns-clause-recorded
returns-clause-recorded c =
    taken_in _ _ _ c.self.invariant c.args.self.now c.args.message.now.message c.accept.new.self c.accept.result c.unless_memory.result c.self.view_is c.requires.vote c.unless_memory.ensures
    c.accept.ensures.faultless c.accept.ensures.recorded c.accept.ensures.fault c.accept.ensures.unchanged
