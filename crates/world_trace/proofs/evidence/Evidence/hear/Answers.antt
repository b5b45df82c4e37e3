use Rattle.std.proofs.lemmas.Result.{on_ok_weaker}
use Rattle.world_trace.specs.Heard.{AreClaimed, IsClaimed}
use Rattle.world_trace.proofs.Resting.{among, first_in, set_in}
use Rattle.world_trace.proofs.evidence.Evidence.hear.Goals as goal

pub returns-in-Some : goal.returns-in-Some
returns-in-Some c = on_ok_weaker c.add_claim.result
    (λ both ms claimed heard.
    let after = both ms claimed (among (λ v. AreClaimed ms v.items) _ c.in-Some.said.now c.in-Some.ensures.member heard.said) heard.news in
    record {
      said = set_in (IsClaimed ms) _ c.args.self.now.said.entries _ c.add_claim.new.said (c.get_mut.follows.holds c.add_claim.new.said).0 heard.said after.0;
      leavings = heard.leavings;
      news = after.1;
    })
    c.add_claim.ensures

pub returns-in-Ok : goal.returns-in-Ok
returns-in-Ok c = λ ms claimed heard. record {
  said = first_in (IsClaimed ms) _ c.args.self.now.said c.get_mut.follows.lender-at-none c.insert.new.self.entries _ c.new-said.result c.push.new.self c.args.claim c.get_mut.follows.holds-at-none c.in-Ok.ensures.entries c.new-said.ensures.items c.in_ok-push.ensures.items heard.said claimed;
  leavings = heard.leavings;
  news = heard.news;
}
