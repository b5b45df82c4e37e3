use Rattle.world_trace.specs.Heard.{IsHeardCommit}
use Rattle.world_trace.proofs.Resting.{first_in, pushed_in}
use Rattle.world_trace.proofs.leavings.Leavings.keep_commit.Goals as goal

pub returns-in-Some : goal.returns-in-Some
returns-in-Some c = λ ms heard kept. record {
  commits = pushed_in (IsHeardCommit ms) _ c.args.self.now.commits.entries _ c.in-Some.commits.now c.push.new.self c.args.said
      (c.get_mut.follows.holds c.push.new.self).0 c.in-Some.ensures.member c.in_ok-push.ensures.items kept.commits heard;
  left = kept.left;
}

pub returns-in-Ok : goal.returns-in-Ok
returns-in-Ok c = λ ms heard kept. record {
  commits = first_in (IsHeardCommit ms) _ c.args.self.now.commits c.get_mut.follows.lender-at-none c.insert.new.self.entries _ c.new-commits.result c.push-2.new.self c.args.said c.get_mut.follows.holds-at-none c.in-Ok.ensures.entries c.new-commits.ensures.items c.in_ok-push-2.ensures.items kept.commits heard;
  left = kept.left;
}
