use Rattle.std.proofs.Common.{◌≡◌, rules, subst}
use Rattle.std.specs.Prelude.{IsTrue}
use Rattle.world_trace.specs.Exploring.{IsOutcome}
use Rattle.world_trace.specs.Searches.{chosen}
use Rattle.world_trace.specs.Shrinking.{numbers_in}
use Rattle.world_trace.proofs.shrink.Found.is_found_under.Goals as goal

pub returns : goal.returns
returns c = λ yes.
    let same : IsTrue c.eq.result → c.in_ok-ran.ran.outcome ≡ c.args.self.finding.outcome = search rules in
    record { comes = subst (IsOutcome (chosen c.args.self.finding.seed (numbers_in c.args.choices.now) c.args.self.script.now) c.args.self.finding.wanted) (same yes) c.in_ok-ran.ensures }
