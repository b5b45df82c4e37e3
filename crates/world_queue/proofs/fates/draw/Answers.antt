use Rattle.world_queue.proofs.Draws.{two_more}
use Rattle.world_queue.proofs.fates.draw.Goals as goal

pub returns-in-Unreliable-clause-state : goal.returns-in-Unreliable-clause-state
returns-in-Unreliable-clause-state c =
    two_more c.args.order.now c.in-Unreliable.seed c.in-Unreliable.chances c.args.done c.args.state c.next_state-next.result c.next_state-last.result c.in-Unreliable.is c.requires.state c.next_state-next.ensures
    c.next_state-last.ensures
