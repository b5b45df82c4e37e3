use Rattle.std.proofs.Common.{◌≡◌, ◌+◌, ◌<◌, ◌∙◌, Err, List, get_or, length, ap, rules, sym, subst}
use Rattle.std.specs.Io.KnownBytes.{Appends}
use Rattle.std.specs.List.{concat}
use Rattle.std.specs.Prelude.{ℕ, take}
use Rattle.script_text.specs.declared.script.NamedStep.{NamedStep}
use Rattle.world_script.specs.declared.fault.RunFault.TheVariants.{Memory, Write}
use Rattle.script_text.specs.declared.script.DeliveryOrder.{DeliveryOrder}
use Rattle.world_trace.specs.Searches.{choice_lines, in_place, numbers_at, place_line}
use Rattle.world_trace.specs.Shrinking.{TellsOf, numbers_in}
use Rattle.world_trace.proofs.Shrinking.{cut_line, no_line, one_line, unwritten}
use Rattle.world_trace.proofs.shrink.Found.write_lines.Goals.{in-Deliver+in_ok-line+in_ok-write_text, in_default}
use Rattle.world_trace.proofs.shrink.Found.write_lines.Goals as goal

same_line : (seed : ℕ) (numbers : List (List ℕ)) (line chosen : List ℕ) (order : DeliveryOrder) (n i : ℕ) → line ≡ place_line (n + 1) (in_place seed chosen order) → chosen ≡ numbers_at numbers n → n ≡ i
    → line ≡ place_line (i + 1) (in_place seed (numbers_at numbers i) order)
same_line seed numbers line chosen order n i is at same =
    is ∙ ap (λ (ns : List ℕ). place_line (n + 1) (in_place seed ns order)) at ∙ ap (λ (m : ℕ). place_line (m + 1) (in_place seed (numbers_at numbers m) order)) same

pub returns-in_err-line : goal.returns-in_err-line
returns-in_err-line g c =
    let items = c.as_slice-step-items.ensures in
    let same : c.from_residual.result ≡ Err Memory = search rules in
    subst (TellsOf (choice_lines c.args.self.finding.seed (numbers_in c.args.choices.now) 0 c.args.self.script.now.steps) (g.O.Write.contents c.args.writer.now) (g.O.Write.contents c.loop-step.writer)) (sym same)
    (unwritten c.args.self.finding.seed (numbers_in c.args.choices.now) c.args.self.script.now.steps c.loop-step.step-index c.step-item.result _ _
    (subst (λ (xs : List NamedStep). c.loop-step.step-index < length xs) items c.loop-step-test.true) (subst (λ (xs : List NamedStep). c.step-item.result ≡ get_or xs c.loop-step.step-index c.step-item.result) items c.step-item.is) c.loop-step.invariant.1)

pub returns-in_err-write_text : goal.returns-in_err-write_text
returns-in_err-write_text g c =
    let items = c.as_slice-step-items.ensures in
    let same : c.from_residual-in_err-write_text.result ≡ Err Write = search rules in
    subst (TellsOf (choice_lines c.args.self.finding.seed (numbers_in c.args.choices.now) 0 c.args.self.script.now.steps) (g.O.Write.contents c.args.writer.now) (g.O.Write.contents c.write_text.new.writer)) (sym same)
    (cut_line c.args.self.finding.seed (numbers_in c.args.choices.now) c.args.self.script.now.steps c.loop-step.step-index c.step-item.result _ _
    (subst (λ (xs : List NamedStep). c.loop-step.step-index < length xs) items c.loop-step-test.true) (subst (λ (xs : List NamedStep). c.step-item.result ≡ get_or xs c.loop-step.step-index c.step-item.result) items c.step-item.is) c.loop-step.invariant.1
    _ _ c.in-Deliver.is _
    (same_line c.args.self.finding.seed (numbers_in c.args.choices.now) _ _ _ c.loop-step.index c.loop-step.step-index (c.deref.ensures ∙ c.in_ok-line.ensures) c.choices_at.ensures c.loop-step.invariant.0) _ c.in_err-write_text.ensures.front)

pub loop-step-preserved : goal.loop-step-preserved
loop-step-preserved g c =
    let items = c.as_slice-step-items.ensures in
    let below = subst (λ (xs : List NamedStep). c.loop-step.step-index < length xs) items c.loop-step-test.true in
    let read = subst (λ (xs : List NamedStep). c.step-item.result ≡ get_or xs c.loop-step.step-index c.step-item.result) items c.step-item.is in
    elim c.match-step.branch [
      | in-Deliver+in_ok-line+in_ok-write_text w ↦ (
        w.index-is ∙ ap (λ (n : ℕ). n + 1) c.loop-step.invariant.0,
        subst (λ o. Appends (g.O.Write.contents c.args.writer.now) (g.O.Write.contents o) (concat (choice_lines c.args.self.finding.seed (numbers_in c.args.choices.now) 0 (take (c.loop-step.step-index + 1) c.args.self.script.now.steps)))) (sym w.writer-is)
            (one_line c.args.self.finding.seed (numbers_in c.args.choices.now) c.args.self.script.now.steps c.loop-step.step-index c.step-item.result _ _ below read c.loop-step.invariant.1 _ _ w.in-Deliver.is _
            (same_line c.args.self.finding.seed (numbers_in c.args.choices.now) _ _ _ c.loop-step.index c.loop-step.step-index (w.deref.ensures ∙ w.in_ok-line.ensures) w.choices_at.ensures c.loop-step.invariant.0) _ w.in_ok-write_text.ensures.whole),
      )
      | in_default w ↦ (
        w.index-is ∙ ap (λ (n : ℕ). n + 1) c.loop-step.invariant.0,
        subst (λ o. Appends (g.O.Write.contents c.args.writer.now) (g.O.Write.contents o) (concat (choice_lines c.args.self.finding.seed (numbers_in c.args.choices.now) 0 (take (c.loop-step.step-index + 1) c.args.self.script.now.steps)))) (sym w.writer-is)
            (no_line c.args.self.finding.seed (numbers_in c.args.choices.now) c.args.self.script.now.steps c.loop-step.step-index c.step-item.result _ _ below read c.loop-step.invariant.1 w.in_default.not-Deliver),
      )
    ]
