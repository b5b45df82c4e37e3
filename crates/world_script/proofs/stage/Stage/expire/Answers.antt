use Rattle.std.proofs.Common.{refl, sym, ◌∙◌}
use Rattle.std.proofs.lemmas.Result.{IfOk-weaker}
use Rattle.world_script.proofs.Telling.{expires_resting, expires_running}
use Rattle.world_script.proofs.stage.Stage.expire.Goals as goal

pub returns-then-not-is_running : goal.returns-then-not-is_running
returns-then-not-is_running c = expires_resting c.args.self.now c.args.self.now c.args.id (sym c.is_running.ensures ∙ c.if-not-is_running.true) refl

pub returns : goal.returns
returns c =
    IfOk-weaker c.happen.result _ _ (λ row h. expires_running c.args.self.now c.happen.new.self c.args.id row (sym c.is_running.ensures ∙ c.if-not-is_running.false) h) c.happen.ensures
