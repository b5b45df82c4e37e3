use Rattle.std.proofs.Common.{List, refl, sym, subst}
use Rattle.host_types.specs.declared.ReplicaId.{ReplicaId}
use Rattle.std.specs.String.{string_bytes}
use Rattle.std.proofs.lemmas.Result.{IfOk-weaker}
use Rattle.script_text.specs.declared.script.Step.{Step}
use Rattle.world_script.specs.Parts.{TellsActs, TellsTimeouts}
use Rattle.world_script.proofs.Telling.{told_none}
use Rattle.world_script.proofs.stage.Stage.act.Goals as goal

pub returns-in-Request : goal.returns-in-Request
returns-in-Request g c =
    let told = (goal.Watcher-dyn g c.args.watcher.now).told c.args.watcher.now.1 in
    IfOk-weaker c.request.result _ _
    (λ text is. subst (λ (step : Step). TellsActs c.args.self.now step (string_bytes text) c.request.new.self told told) (sym c.in-Request.is) (is, told_none told)) c.request.ensures

pub returns-in-Forge : goal.returns-in-Forge
returns-in-Forge g c =
    let told = (goal.Watcher-dyn g c.args.watcher.now).told c.args.watcher.now.1 in
    IfOk-weaker c.forge.result _ _
    (λ text is. subst (λ (step : Step). TellsActs c.args.self.now step (string_bytes text) c.forge.new.self told told) (sym c.in-Forge.is) (is, told_none told)) c.forge.ensures

pub returns-in-Print : goal.returns-in-Print
returns-in-Print g c =
    let told = (goal.Watcher-dyn g c.args.watcher.now).told c.args.watcher.now.1 in
    IfOk-weaker c.printout_text.result _ _
    (λ text is. subst (λ (step : Step). TellsActs c.args.self.now step (string_bytes text) c.args.self.now told told) (sym c.in-Print.is) ((is, refl), told_none told)) c.printout_text.ensures

pub returns-in_ok-time_out-in-Timeout : goal.returns-in_ok-time_out-in-Timeout
returns-in_ok-time_out-in-Timeout g c =
    let told = (goal.Watcher-dyn g c.args.watcher.now).told c.args.watcher.now.1 in
    let later = (goal.Watcher-dyn g (c.args.watcher.now.0, c.time_out.new.watcher)).told c.time_out.new.watcher in
    let all = subst (λ (ids : List ReplicaId). TellsTimeouts c.args.self.now ids c.time_out.new.self told later) c.as_slice.ensures c.in_ok-time_out-in-Timeout.ensures in
    subst (λ (step : Step). TellsActs c.args.self.now step (string_bytes c.new-nothing.result) c.time_out.new.self told later) (sym c.in-Timeout.is) ((c.new-nothing.ensures.bytes, all.0), all.1)
