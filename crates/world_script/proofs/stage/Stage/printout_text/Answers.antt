use Rattle.std.proofs.lemmas.Result.{IfOk-weaker}
use Rattle.world_script.proofs.Printed.{upgraded}
use Rattle.world_script.proofs.stage.Stage.printout_text.Goals as goal

pub returns-in-Upgrade : goal.returns-in-Upgrade
returns-in-Upgrade c =
    IfOk-weaker c.upgrade_text.result _ _
    (λ text u. upgraded c.args.self.now c.args.printout.now c.in-Upgrade.bytes c.as_slice.result.now _ c.in-Upgrade.is c.as_slice.ensures.value u)
    c.upgrade_text.ensures
