use Rattle.replica_core.proofs.Opening.{noted_one}
use Rattle.replica_core.proofs.kept.Core.note_proposals.Goals as goal

pub invariant_of-self-2 : goal.invariant_of-self-2
invariant_of-self-2 c = noted_one _ _ _ c.self.invariant c.args.list.now c.propose_all.new.self c.requires c.in_ok-propose_all.ensures.proposed
