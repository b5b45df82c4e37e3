use Rattle.world_trace.specs.Heard.{IsHeardLeft}
use Rattle.world_trace.proofs.Resting.{first_in, pushed_in}
use Rattle.world_trace.proofs.leavings.Leavings.keep_leaving.Goals as goal

pub returns-in-Some : goal.returns-in-Some
returns-in-Some c = λ ms heard kept. record {
  commits = kept.commits;
  left = pushed_in (IsHeardLeft ms) _ c.args.self.now.left.entries _ c.in-Some.changes.now c.push.new.self c.args.left
      (c.get_mut.follows.holds c.push.new.self).0 c.in-Some.ensures.member c.in_ok-push.ensures.items kept.left heard;
}

pub returns-in-Ok : goal.returns-in-Ok
returns-in-Ok c = λ ms heard kept. record {
  commits = kept.commits;
  left = first_in (IsHeardLeft ms) _ c.args.self.now.left c.get_mut.follows.lender-at-none c.insert.new.self.entries _ c.new-changes.result c.push-2.new.self c.args.left c.get_mut.follows.holds-at-none c.in-Ok.ensures.entries c.new-changes.ensures.items c.in_ok-push-2.ensures.items kept.left heard;
}
