use Rattle.service_core.proofs.Turns.{turn_first, turn_ended}
use Rattle.service_core.proofs.reader.are_in_turn.Goals as goal

pub loop-id-init : goal.loop-id-init
loop-id-init c = turn_first c.args.ids.now c.args.replies.now

pub returns : goal.returns
returns c = turn_ended c.args.ids.now c.args.replies.now c.loop-id.id-index c.loop-id.next c.loop-id.invariant c.loop-id-test.false
