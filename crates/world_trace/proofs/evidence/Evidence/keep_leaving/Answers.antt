use Rattle.std.proofs.Common.{sym, ◌∙◌}
use Rattle.std.proofs.lemmas.Result.{on_ok_weaker}
use Rattle.world_trace.proofs.Resting.{leaves}
use Rattle.world_trace.proofs.evidence.Evidence.keep_leaving.Goals as goal

pub returns-in_ok-leaving-in-ViewChange : goal.returns-in_ok-leaving-in-ViewChange
returns-in_ok-leaving-in-ViewChange c = on_ok_weaker c.leave.result
    (λ both ms here heard.
    let left = leaves ms c.args.message.now c.args.claim c.in_ok-leaving-in-ViewChange.leaving c.in-ViewChange.change c.requires (sym c.body.ensures.value ∙ c.in-ViewChange.is) c.in_ok-leaving-in-ViewChange.ensures here in
    let after = both ms left heard.leavings heard.news in
    record { said = heard.said; leavings = after.0; news = after.1 })
    c.leave.ensures
