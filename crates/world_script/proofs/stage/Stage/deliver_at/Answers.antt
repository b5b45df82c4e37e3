use Rattle.std.proofs.Common.{subst}
use Rattle.std.specs.String.{string_bytes}
use Rattle.std.proofs.lemmas.Result.{IfOk-weaker}
use Rattle.world_script.specs.Facts.{StageFacts}
use Rattle.world_script.specs.Parts.{TellsHanding}
use Rattle.world_script.proofs.stage.Stage.deliver_at.Goals as goal

pub returns : goal.returns
returns g c =
    let told = (goal.Watcher-dyn g c.args.watcher.now).told c.args.watcher.now.1 in
    let later = (goal.Watcher-dyn g (c.args.watcher.now.0, c.hand_over.new.watcher)).told c.hand_over.new.watcher in
    let letter = c.take_meant-letter.result in
    let taken = c.take_meant-letter.ensures in
    IfOk-weaker c.hand_over.result _ _
    (λ text handed.
    let tells = subst (λ (s : StageFacts). TellsHanding letter c.args.passed s (string_bytes text) c.hand_over.new.self told later) taken.2 handed in
    (record { letter = letter; left = taken.0; taken = taken.1; handed = tells.0 }, tells.1))
    c.hand_over.ensures
