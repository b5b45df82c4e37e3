use Rattle.std.proofs.Common.{List, ℕ, ap, sym, subst, ◌∙◌}
use Rattle.script_text.specs.declared.script.Step.{Step}
use Rattle.script_text.specs.declared.script.Step.TheVariants as steps
use Rattle.world_script.specs.Seen.{RunTells}
use Rattle.world_script.specs.Parts.{TellsStep}
use Rattle.world_script.proofs.Playing.{ends_cut, ends_unprinted, ends_whole}
use Rattle.world_script.proofs.stage.Stage.run.Goals as goal

pub returns-in-Ok-write_text : goal.returns-in-Ok-write_text
returns-in-Ok-write_text g c =
    let told = (goal.Watcher-dyn g c.args.watcher.now).told c.args.watcher.now.1 in
    let later = (goal.Watcher-dyn g (c.args.watcher.now.0, c.perform.new.watcher)).told c.perform.new.watcher in
    let performs = subst (λ (text : List ℕ). TellsStep c.args.self.now c.args.step.now text c.perform.new.self told later) (sym c.deref.ensures) c.in-Ok.ensures in
    ends_whole c.args.self.now c.perform.new.self c.deref.result.now told later c.args.step.now (g.O.Write.contents c.args.writer.now) (g.O.Write.contents c.write_text.new.writer) c.in-Ok.text c.deref.ensures
    c.in_default.not-Deliver performs c.in-Ok-write_text.ensures.whole

pub returns-in-Err : goal.returns-in-Err
returns-in-Err g c =
    let told = (goal.Watcher-dyn g c.args.watcher.now).told c.args.watcher.now.1 in
    let later = (goal.Watcher-dyn g (c.args.watcher.now.0, c.perform.new.watcher)).told c.perform.new.watcher in
    let performs = subst (λ (text : List ℕ). TellsStep c.args.self.now c.args.step.now text c.perform.new.self told later) (sym c.deref.ensures) c.in-Ok.ensures in
    ends_cut c.args.self.now c.perform.new.self c.deref.result.now told later c.args.step.now (g.O.Write.contents c.args.writer.now) (g.O.Write.contents c.write_text.new.writer) c.in-Err.fault
    c.in_default.not-Deliver performs c.in-Err.ensures.front c.in-Err.ensures.fault

pub returns-in-Oldest : goal.returns-in-Oldest
returns-in-Oldest g c =
    let told = (goal.Watcher-dyn g c.args.watcher.now).told c.args.watcher.now.1 in
    let later = (goal.Watcher-dyn g (c.args.watcher.now.0, c.deliver.new.watcher)).told c.deliver.new.watcher in
    subst (λ (step : Step). RunTells c.args.self.now step (g.O.Write.contents c.args.writer.now) (g.O.Write.contents c.deliver.new.writer) c.deliver.result c.deliver.new.self told later)
    (sym (c.in-Deliver.is ∙ ap (steps.Deliver c.in-Deliver.filter) c.in-Oldest.is)) c.deliver.ensures

pub returns-in-Drawn : goal.returns-in-Drawn
returns-in-Drawn g c =
    let told = (goal.Watcher-dyn g c.args.watcher.now).told c.args.watcher.now.1 in
    let later = (goal.Watcher-dyn g (c.args.watcher.now.0, c.deliver_in.new.watcher)).told c.deliver_in.new.watcher in
    subst (λ (step : Step). RunTells c.args.self.now step (g.O.Write.contents c.args.writer.now) (g.O.Write.contents c.deliver_in.new.writer) c.deliver_in.result c.deliver_in.new.self told later)
    (sym c.in-Deliver.is) c.deliver_in.ensures
