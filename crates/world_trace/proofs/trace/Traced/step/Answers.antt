use Rattle.std.proofs.Common.{List, ℕ, [], sym, subst, ◌∙◌}
use Rattle.std.specs.String.{string_bytes}
use Rattle.world_chart.specs.Happening.{Happening}
use Rattle.world_script.specs.Expecting.{Scene}
use Rattle.world_trace.specs.Telling.{AreNoted, RunsInMemory}
use Rattle.world_trace.proofs.Telling.{passed, told_early}
use Rattle.world_trace.proofs.trace.Traced.step.Goals as goal

pub returns-in-Err : goal.returns-in-Err
returns-in-Err g c =
    let before : Scene = record { stage = c.args.self.now.stage; unread = string_bytes c.args.self.now.unread } in
    let after : Scene = record { stage = c.run-ended.new.self.stage; unread = string_bytes c.run-ended.new.self.unread } in
    told_early c.args.number c.args.place before c.args.step.now _ _ after c.deref.result.now c.happened.result.now c.in-Err.fault (c.deref.ensures ∙ c.in_ok-mark.ensures) c.in-Err.ensures.early

pub returns : goal.returns
returns g c =
    let before : Scene = record { stage = c.args.self.now.stage; unread = string_bytes c.args.self.now.unread } in
    let after : Scene = record { stage = c.run-ended.new.self.stage; unread = string_bytes c.run-ended.new.self.unread } in
    let noted = c.clear.new.self.happened.items in
    let happened = c.run-ended.new.self.tracer.happened.items in
    let Runs : List ℕ → List ℕ → List Happening → List Happening → Type 0 =
    λ from printed was is. RunsInMemory c.args.number before c.args.step.now from printed c.run-ended.result after (AreNoted was) (AreNoted is) in
    passed c.args.number c.args.place before c.args.step.now _ _ _ after c.deref.result.now c.deref-2.result.now c.happened.result.now (c.deref.ensures ∙ c.in_ok-mark.ensures) c.run-ended.result c.pass_on.result
    c.in_default.ensures.whole
    (subst (λ (hs : List Happening). Runs [] c.deref-2.result.now [] hs) (sym c.happened.ensures)
    (subst (λ (hs : List Happening). Runs [] c.deref-2.result.now hs happened) c.clear.ensures
    (subst (λ (bs : List ℕ). Runs [] bs noted happened) (sym c.deref-2.ensures.value)
    (subst (λ (bs : List ℕ). Runs bs c.run-ended.new.printed.items noted happened) c.new-printed.ensures.items c.run-ended.ensures))))
    c.pass_on.ensures
