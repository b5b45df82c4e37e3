use Rattle.std.specs.List.{All, Contains}
use Rattle.seal.specs.Opening.{CheckedMessage}
use Rattle.world_trace.specs.Heard.{with_carried}
use Rattle.world_trace.proofs.Resting.{among}
use Rattle.world_trace.proofs.evidence.Evidence.add_each_inside.Goals as goal

pub loop-message-preserved : goal.loop-message-preserved
loop-message-preserved c = λ ms all heard.
    c.in_ok-add_inside.ensures ms
    (among (λ (m : CheckedMessage). All (Contains ms) (with_carried m)) c.args.messages.now c.message-item.result (c.loop-message.message-index, (c.loop-message-test.true, c.message-item.is)) all)
    (c.loop-message.invariant ms all heard)
