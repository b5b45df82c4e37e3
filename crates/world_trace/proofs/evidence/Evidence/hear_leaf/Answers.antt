use Rattle.std.proofs.Common.{sym, ◌∙◌}
use Rattle.world_trace.proofs.Resting.{claims_leaf}
use Rattle.world_trace.proofs.evidence.Evidence.hear_leaf.Goals as goal

pub returns-in_ok-hear : goal.returns-in_ok-hear
returns-in_ok-hear c = λ ms here heard. c.in_ok-hear.ensures ms (claims_leaf ms c.args.message.now c.in-Some.claim (sym c.leaf_claim_of.ensures ∙ c.in-Some.is) here) heard
