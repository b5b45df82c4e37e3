use Rattle.std.proofs.Common.{sym, ◌∙◌}
use Rattle.std.proofs.lemmas.Result.{on_ok_weaker}
use Rattle.world_trace.proofs.Resting.{claims_change}
use Rattle.world_trace.proofs.evidence.Evidence.hear_change.Goals as goal

pub returns-then-not-branch : goal.returns-then-not-branch
returns-then-not-branch c = λ ms here heard. c.in_ok-hear.ensures ms (claims_change ms c.args.message.now c.in-Some.claim (sym c.view_claim_of.ensures ∙ c.in-Some.is) here) heard

pub returns : goal.returns
returns c = on_ok_weaker c.keep_leaving.result
    (λ kept ms here heard.
    let claimed = claims_change ms c.args.message.now c.in-Some.claim (sym c.view_claim_of.ensures ∙ c.in-Some.is) here in
    kept ms here (c.in_ok-add_if_invalid.ensures ms here (c.in_ok-hear.ensures ms claimed heard)))
    c.keep_leaving.ensures
