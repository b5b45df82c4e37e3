use Rattle.std.proofs.Common.{sym, subst}
use Rattle.std.specs.String.{string_bytes}
use Rattle.std.proofs.lemmas.Result.{IfOk-weaker}
use Rattle.world_queue.specs.declared.fates.Fate.{Fate}
use Rattle.world_script.specs.Parts.{TellsFate}
use Rattle.world_script.proofs.stage.Stage.befall.Goals as goal

pub returns-in-Handed : goal.returns-in-Handed
returns-in-Handed g c =
    let told = (goal.Watcher-dyn g c.args.watcher.now).told c.args.watcher.now.1 in
    let later = (goal.Watcher-dyn g (c.args.watcher.now.0, c.deliver_at.new.watcher)).told c.deliver_at.new.watcher in
    IfOk-weaker c.deliver_at.result _ _
    (λ text tells. subst (λ (what : Fate). TellsFate what c.args.filter.now c.args.self.now (string_bytes text) c.deliver_at.new.self told later) (sym c.in-Handed.is) tells) c.deliver_at.ensures

pub returns-in-Lost : goal.returns-in-Lost
returns-in-Lost g c =
    let told = (goal.Watcher-dyn g c.args.watcher.now).told c.args.watcher.now.1 in
    let later = (goal.Watcher-dyn g (c.args.watcher.now.0, c.lose_at.new.watcher)).told c.lose_at.new.watcher in
    IfOk-weaker c.lose_at.result _ _
    (λ text tells. subst (λ (what : Fate). TellsFate what c.args.filter.now c.args.self.now (string_bytes text) c.lose_at.new.self told later) (sym c.in-Lost.is) tells) c.lose_at.ensures

pub returns-in-Repeated : goal.returns-in-Repeated
returns-in-Repeated g c =
    let told = (goal.Watcher-dyn g c.args.watcher.now).told c.args.watcher.now.1 in
    let later = (goal.Watcher-dyn g (c.args.watcher.now.0, c.repeat_at.new.watcher)).told c.repeat_at.new.watcher in
    IfOk-weaker c.repeat_at.result _ _
    (λ text tells. subst (λ (what : Fate). TellsFate what c.args.filter.now c.args.self.now (string_bytes text) c.repeat_at.new.self told later) (sym c.in-Repeated.is) tells) c.repeat_at.ensures

pub returns-in-TimedOut : goal.returns-in-TimedOut
returns-in-TimedOut g c =
    let told = (goal.Watcher-dyn g c.args.watcher.now).told c.args.watcher.now.1 in
    let later = (goal.Watcher-dyn g (c.args.watcher.now.0, c.be_late.new.watcher)).told c.be_late.new.watcher in
    IfOk-weaker c.be_late.result _ _
    (λ text tells. subst (λ (what : Fate). TellsFate what c.args.filter.now c.args.self.now (string_bytes text) c.be_late.new.self told later) (sym c.in-TimedOut.is) tells) c.be_late.ensures
