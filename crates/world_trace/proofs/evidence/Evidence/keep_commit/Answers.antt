use Rattle.std.proofs.Common.{sym, ◌∙◌}
use Rattle.std.proofs.lemmas.Result.{on_ok_weaker}
use Rattle.world_trace.proofs.Resting.{commits}
use Rattle.world_trace.proofs.evidence.Evidence.keep_commit.Goals as goal

pub returns-in-Commit : goal.returns-in-Commit
returns-in-Commit c = on_ok_weaker c.commit.result
    (λ both ms here heard.
    let said = commits ms c.args.message.now c.args.claim c.in-Commit.commit c.requires (sym c.body.ensures.value ∙ c.in-Commit.is) here in
    let after = both ms said heard.leavings heard.news in
    record { said = heard.said; leavings = after.0; news = after.1 })
    c.commit.ensures
