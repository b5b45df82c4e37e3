use Rattle.world_trace.specs.Heard.{IsHeardCommit}
use Rattle.world_trace.proofs.Resting.{first_of_run}
use Rattle.world_trace.proofs.leavings.Leavings.add_next.Goals as goal

pub returns-then-view : goal.returns-then-view
returns-then-view c = λ ms left kept old.
    let heard = first_of_run (IsHeardCommit ms) c.args.self.now.commits c.range-found.result _ _ (c.in-Some.place, c.in-Some.commits) c.deref.result.now c.range-found.ensures.contiguous c.in-Some.is c.next.ensures.steps c.deref.ensures.value kept.commits in
    c.in_ok-add_hidden.ensures ms left heard old

pub returns : goal.returns
returns c = λ ms left kept old.
    let heard = first_of_run (IsHeardCommit ms) c.args.self.now.commits c.range-found.result _ _ (c.in-Some.place, c.in-Some.commits) c.deref.result.now c.range-found.ensures.contiguous c.in-Some.is c.next.ensures.steps c.deref.ensures.value kept.commits in
    c.in_ok-add_hidden.ensures ms left heard old
