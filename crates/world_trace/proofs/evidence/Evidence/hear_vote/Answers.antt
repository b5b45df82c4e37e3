use Rattle.std.proofs.Common.{sym, ◌∙◌}
use Rattle.std.proofs.lemmas.Result.{on_ok_weaker}
use Rattle.world_trace.proofs.Resting.{claims_vote}
use Rattle.world_trace.proofs.evidence.Evidence.hear_vote.Goals as goal

pub returns-then-not-branch : goal.returns-then-not-branch
returns-then-not-branch c = λ ms here heard. c.in_ok-hear.ensures ms (claims_vote ms c.args.message.now c.in-Some.claim (sym c.claim_of.ensures ∙ c.in-Some.is) here) heard

pub returns : goal.returns
returns c = on_ok_weaker c.keep_commit.result
    (λ kept ms here heard. kept ms here (c.in_ok-hear.ensures ms (claims_vote ms c.args.message.now c.in-Some.claim (sym c.claim_of.ensures ∙ c.in-Some.is) here) heard))
    c.keep_commit.ensures
