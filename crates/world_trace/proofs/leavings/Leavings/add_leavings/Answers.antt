use Rattle.world_trace.specs.Heard.{IsHeardLeft}
use Rattle.world_trace.proofs.Resting.{turn_of_run}
use Rattle.world_trace.proofs.leavings.Leavings.add_leavings.Goals as goal

pub loop-later-preserved : goal.loop-later-preserved
loop-later-preserved c = λ ms committed kept old.
    let hiding = turn_of_run (IsHeardLeft ms) c.args.self.now.left c.range-later-items.result _ _ _ _ _ (c.in-Some.later, c.in-Some.changes) c.deref.result.now c.range-later-items.ensures.contiguous c.into_iter-later-iterator.ensures.into_iter_gives
    c.loop-later.yielded_by c.in-Some.is c.next.ensures.steps c.deref.ensures.value kept.left in
    c.in_ok-add_hiding.ensures ms hiding committed (c.loop-later.invariant ms committed kept old)
