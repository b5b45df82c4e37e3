use Rattle.std.proofs.Common.{◌≡◌, ◌<◌, ℕ, List, ◌++◌, refl, sym, ap, subst, ◌∙◌, arith}
use Rattle.std.specs.String.{string_bytes}
use Rattle.std.specs.Io.KnownBytes.{Appends}
use Rattle.script_text.specs.declared.script.Step.TheVariants as steps
use Rattle.world_script.specs.Writing.{AppendsFront}
use Rattle.world_script.proofs.Delivering.{all_drawn, drawn_cut, drawn_more, drawn_so, drawn_too_many, memory_ended}
use Rattle.world_script.proofs.stage.Stage.deliver_in.Goals as goal

pub loop-done-preserved : goal.loop-done-preserved
loop-done-preserved g c =
    let told = (goal.Watcher-dyn g c.args.watcher.now).told c.args.watcher.now.1 in
    let between = (goal.Watcher-dyn g c.loop-done.watcher.now).told c.loop-done.watcher.now.1 in
    let later = (goal.Watcher-dyn g (c.loop-done.watcher.now.0, c.befall.new.watcher)).told c.befall.new.watcher in
    drawn_more c.args.filter.now c.args.order.now c.loop-done.done c.args.self.now c.loop-done.self _ (g.O.Write.contents c.loop-done.writer) c.loop-done.state (string_bytes c.loop-done.lines) told between c.loop-done.invariant
    c.befall.new.self (string_bytes c.in_ok-text.text) c.count_meant-count.result c.replica_count.result c.draw-fate.result.0 later c.count_meant-count.ensures c.replica_count.ensures.value c.draw-fate.ensures.fate c.in_ok-text.ensures
    (g.O.Write.contents c.write_text.new.writer) c.draw-fate.result.1 _ c.draw-fate.ensures.state
    (subst (Appends (g.O.Write.contents c.loop-done.writer) (g.O.Write.contents c.write_text.new.writer)) c.as_str-line.ensures.value c.in_default.ensures.whole)
    (c.in_ok-push_str.ensures.bytes ∙ ap (λ (x : List ℕ). string_bytes c.loop-done.lines ++ x) c.as_str-line.ensures.value)

pub returns-in-Err : goal.returns-in-Err
returns-in-Err g c =
    let told = (goal.Watcher-dyn g c.args.watcher.now).told c.args.watcher.now.1 in
    let between = (goal.Watcher-dyn g c.loop-done.watcher.now).told c.loop-done.watcher.now.1 in
    let later = (goal.Watcher-dyn g (c.loop-done.watcher.now.0, c.befall.new.watcher)).told c.befall.new.watcher in
    drawn_cut c.args.filter.now c.args.order.now c.loop-done.done c.args.self.now c.loop-done.self _ (g.O.Write.contents c.loop-done.writer) c.loop-done.state (string_bytes c.loop-done.lines) told between c.loop-done.invariant
    c.befall.new.self (string_bytes c.in_ok-text.text) c.count_meant-count.result c.replica_count.result c.draw-fate.result.0 later c.count_meant-count.ensures c.replica_count.ensures.value c.draw-fate.ensures.fate c.in_ok-text.ensures
    c.befall.new.self (g.O.Write.contents c.write_text.new.writer) later c.loop-done-test.true
    (subst (AppendsFront (g.O.Write.contents c.loop-done.writer) (g.O.Write.contents c.write_text.new.writer)) c.as_str-line.ensures.value c.in-Err.ensures.front)

pub returns-then-count-eq0 : goal.returns-then-count-eq0
returns-then-count-eq0 g c =
    let told = (goal.Watcher-dyn g c.args.watcher.now).told c.args.watcher.now.1 in
    let between = (goal.Watcher-dyn g c.loop-done.watcher.now).told c.loop-done.watcher.now.1 in
    all_drawn c.args.filter.now c.args.order.now c.loop-done.done c.args.self.now c.loop-done.self _ (g.O.Write.contents c.loop-done.writer) c.loop-done.state (string_bytes c.loop-done.lines) told between c.loop-done.invariant
    c.loop-done.lines (omega (arith, c.loop-done-test.true)) refl (sym c.count_meant-count.ensures ∙ c.if-count-eq0.true)

pub returns-then-count_meant-gt0 : goal.returns-then-count_meant-gt0
returns-then-count_meant-gt0 g c =
    let told = (goal.Watcher-dyn g c.args.watcher.now).told c.args.watcher.now.1 in
    let between = (goal.Watcher-dyn g c.loop-done.watcher.now).told c.loop-done.watcher.now.1 in
    drawn_too_many c.args.filter.now c.args.order.now c.loop-done.done c.args.self.now c.loop-done.self _ (g.O.Write.contents c.loop-done.writer) c.loop-done.state (string_bytes c.loop-done.lines) told between c.loop-done.invariant
    c.loop-done.self (omega (arith, c.loop-done-test.false, c.loop-done.auto.done-end)) (subst (λ (n : ℕ). 0 < n) c.count_meant.ensures c.if-count_meant-gt0.true)

pub returns : goal.returns
returns g c =
    let told = (goal.Watcher-dyn g c.args.watcher.now).told c.args.watcher.now.1 in
    let between = (goal.Watcher-dyn g c.loop-done.watcher.now).told c.loop-done.watcher.now.1 in
    let none : c.count_meant.result ≡ 0 = omega (arith, c.if-count_meant-gt0.false) in
    all_drawn c.args.filter.now c.args.order.now c.loop-done.done c.args.self.now c.loop-done.self _ (g.O.Write.contents c.loop-done.writer) c.loop-done.state (string_bytes c.loop-done.lines) told between c.loop-done.invariant
    c.loop-done.lines (omega (arith, c.loop-done.auto.done-end)) refl (sym c.count_meant.ensures ∙ none)

pub returns-in_err-push_str : goal.returns-in_err-push_str
returns-in_err-push_str g c =
    let told = (goal.Watcher-dyn g c.args.watcher.now).told c.args.watcher.now.1 in
    let between = (goal.Watcher-dyn g c.loop-done.watcher.now).told c.loop-done.watcher.now.1 in
    let later = (goal.Watcher-dyn g (c.loop-done.watcher.now.0, c.befall.new.watcher)).told c.befall.new.watcher in
    memory_ended c.args.self.now (steps.Deliver c.args.filter.now c.args.order.now) _ _ c.from_residual-in_err-push_str.result c.befall.new.self told later (string_bytes c.loop-done.lines)
    c.from_residual-in_err-push_str.ensures.1
    (drawn_so c.args.filter.now c.args.order.now c.loop-done.done c.args.self.now c.loop-done.self (g.O.Write.contents c.args.writer.now) (g.O.Write.contents c.loop-done.writer) c.loop-done.state (string_bytes c.loop-done.lines) told between
    c.loop-done.invariant (omega (arith, c.loop-done-test.true))) c.loop-done.invariant.2
