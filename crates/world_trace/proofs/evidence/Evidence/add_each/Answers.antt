use Rattle.std.specs.List.{Contains}
use Rattle.world_trace.proofs.Resting.{among}
use Rattle.world_trace.proofs.evidence.Evidence.add_each.Goals as goal

pub loop-message-preserved : goal.loop-message-preserved
loop-message-preserved c = λ ms all heard.
    c.in_ok-add_one.ensures ms (among (Contains ms) c.args.messages.now c.message-item.result (c.loop-message.message-index, (c.loop-message-test.true, c.message-item.is)) all) (c.loop-message.invariant ms all heard)
