use Rattle.std.proofs.Common.{rules}
use Rattle.std.proofs.lemmas.Result.{IfOk-weaker}
use Rattle.world_script.proofs.stage.Stage.drained_text.Goals as goal

pub returns : goal.returns
returns c =
    IfOk-weaker c.line_of_drained.result _ _ (λ text line. (c.deref.result.now, record { ids = search rules; rows = search rules }, line)) c.line_of_drained.ensures
