use Rattle.std.proofs.Common.{ℕ, List, ◌++◌, refl, ap, subst, ◌∙◌, arith}
use Rattle.std.specs.Option.{option_map}
use Rattle.std.specs.String.{string_bytes}
use Rattle.std.specs.Io.KnownBytes.{Appends}
use Rattle.script_text.specs.declared.script.DeliveryOrder.TheVariants as orders
use Rattle.script_text.specs.declared.script.Step.TheVariants as steps
use Rattle.world_script.specs.Parts.{DeliversNext, HasMore, ahead}
use Rattle.world_script.specs.Writing.{AppendsFront}
use Rattle.world_script.proofs.Delivering.{all_delivered, begun_so, continues, memory_ended, too_many, write_ended}
use Rattle.world_script.proofs.Telling.{told_none}
use Rattle.world_script.proofs.stage.Stage.deliver.Goals as goal

pub returns-in_default : goal.returns-in_default
returns-in_default g c =
    let told = (goal.Watcher-dyn g c.args.watcher.now).told c.args.watcher.now.1 in
    let between = (goal.Watcher-dyn g c.loop.watcher.now).told c.loop.watcher.now.1 in
    let later = (goal.Watcher-dyn g (c.loop.watcher.now.0, c.deliver_next.new.watcher)).told c.deliver_next.new.watcher in
    let one = subst (λ o. DeliversNext c.args.filter.now (ahead c.loop.others c.loop.self) (option_map string_bytes o) c.deliver_next.new.others c.deliver_next.new.self between later) c.in_default.is c.in_ok-text.ensures in
    all_delivered c.args.filter.now c.loop.counter c.args.self.now c.loop.self _ _ c.loop.others (string_bytes c.loop.lines) told between c.loop.invariant c.deliver_next.new.self later c.loop.lines
    (omega (arith, c.loop-test.true)) refl (one.0, one.1) one.2

pub returns-in-Err : goal.returns-in-Err
returns-in-Err g c =
    let told = (goal.Watcher-dyn g c.args.watcher.now).told c.args.watcher.now.1 in
    let between = (goal.Watcher-dyn g c.loop.watcher.now).told c.loop.watcher.now.1 in
    let later = (goal.Watcher-dyn g (c.loop.watcher.now.0, c.deliver_next.new.watcher)).told c.deliver_next.new.watcher in
    let one = subst (λ o. DeliversNext c.args.filter.now (ahead c.loop.others c.loop.self) (option_map string_bytes o) c.deliver_next.new.others c.deliver_next.new.self between later) c.in-Some.is c.in_ok-text.ensures in
    write_ended c.args.filter.now c.loop.counter c.args.self.now c.loop.self _ (g.O.Write.contents c.loop.writer) c.loop.others (string_bytes c.loop.lines) told between c.loop.invariant
    (ahead c.deliver_next.new.others c.deliver_next.new.self) c.deliver_next.new.self (g.O.Write.contents c.write_text.new.writer) (string_bytes c.in-Some.text) later later c.loop-test.true one.0
    (subst (AppendsFront (g.O.Write.contents c.loop.writer) (g.O.Write.contents c.write_text.new.writer)) c.as_str-line.ensures.value c.in-Err.ensures.front)

pub loop-preserved : goal.loop-preserved
loop-preserved g c =
    let told = (goal.Watcher-dyn g c.args.watcher.now).told c.args.watcher.now.1 in
    let between = (goal.Watcher-dyn g c.loop.watcher.now).told c.loop.watcher.now.1 in
    let later = (goal.Watcher-dyn g (c.loop.watcher.now.0, c.deliver_next.new.watcher)).told c.deliver_next.new.watcher in
    let one = subst (λ o. DeliversNext c.args.filter.now (ahead c.loop.others c.loop.self) (option_map string_bytes o) c.deliver_next.new.others c.deliver_next.new.self between later) c.in-Some.is c.in_ok-text.ensures in
    continues c.args.filter.now c.loop.counter c.args.self.now c.loop.self _ (g.O.Write.contents c.loop.writer) c.loop.others (string_bytes c.loop.lines) told between c.loop.invariant
    c.deliver_next.new.self (g.O.Write.contents c.write_text.new.writer) c.deliver_next.new.others (string_bytes c.in-Some.text) _ later one
    (subst (Appends (g.O.Write.contents c.loop.writer) (g.O.Write.contents c.write_text.new.writer)) c.as_str-line.ensures.value c.in_default-write_text.ensures.whole)
    (c.in_ok-push_str.ensures.bytes ∙ ap (λ (x : List ℕ). string_bytes c.loop.lines ++ x) c.as_str-line.ensures.value)

pub returns-then-branch : goal.returns-then-branch
returns-then-branch g c =
    let told = (goal.Watcher-dyn g c.args.watcher.now).told c.args.watcher.now.1 in
    let between = (goal.Watcher-dyn g c.loop.watcher.now).told c.loop.watcher.now.1 in
    too_many c.args.filter.now c.loop.counter c.args.self.now c.loop.self _ _ c.loop.others (string_bytes c.loop.lines) told between c.loop.invariant c.has_more.new.self
    (omega (arith, c.loop-test.false, c.loop.auto.counter-end)) (subst (HasMore c.args.filter.now (ahead c.loop.others c.loop.self) c.has_more.new.self) c.if-branch.true c.in_ok-has_more.ensures)

pub returns : goal.returns
returns g c =
    let told = (goal.Watcher-dyn g c.args.watcher.now).told c.args.watcher.now.1 in
    let between = (goal.Watcher-dyn g c.loop.watcher.now).told c.loop.watcher.now.1 in
    all_delivered c.args.filter.now c.loop.counter c.args.self.now c.loop.self _ _ c.loop.others (string_bytes c.loop.lines) told between c.loop.invariant c.has_more.new.self between c.loop.lines
    (omega (arith, c.loop.auto.counter-end)) refl (subst (HasMore c.args.filter.now (ahead c.loop.others c.loop.self) c.has_more.new.self) c.if-branch.false c.in_ok-has_more.ensures) (told_none between)

pub returns-in_err-push_str : goal.returns-in_err-push_str
returns-in_err-push_str g c =
    let told = (goal.Watcher-dyn g c.args.watcher.now).told c.args.watcher.now.1 in
    let between = (goal.Watcher-dyn g c.loop.watcher.now).told c.loop.watcher.now.1 in
    let later = (goal.Watcher-dyn g (c.loop.watcher.now.0, c.deliver_next.new.watcher)).told c.deliver_next.new.watcher in
    memory_ended c.args.self.now (steps.Deliver c.args.filter.now orders.Oldest) _ _ c.from_residual-in_err-push_str.result c.deliver_next.new.self told later (string_bytes c.loop.lines)
    c.from_residual-in_err-push_str.ensures.1
    (begun_so c.args.filter.now c.loop.counter c.args.self.now c.loop.self (g.O.Write.contents c.args.writer.now) (g.O.Write.contents c.loop.writer) c.loop.others (string_bytes c.loop.lines) told between c.loop.invariant
    (omega (arith, c.loop-test.true))) c.loop.invariant.2
