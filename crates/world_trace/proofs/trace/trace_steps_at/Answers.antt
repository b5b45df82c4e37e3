use Rattle.std.proofs.Common.{◌≡◌, ℕ, ◌+◌, ◌<◌, List, length, get_or, Option, Ok, Err, sym, subst, inr, arith}
use Rattle.std.specs.Prelude.{min}
use Rattle.std.specs.String.{string_bytes}
use Rattle.script_text.specs.declared.script.NamedStep.{NamedStep}
use Rattle.world_script.specs.Expecting.{Scene}
use Rattle.world_script.specs.declared.played.Played.TheVariants.{Whole, Unexpected}
use Rattle.world_trace.specs.Traces.{StepTraced}
use Rattle.world_trace.proofs.Tracing.{one_more_traced, trace_ends}
use Rattle.world_trace.proofs.trace.trace_steps_at.Goals as goal

numbered : (n i r : ℕ) → n ≡ min i 4294967295 → r ≡ min (n + 1) 4294967295 → r ≡ min (i + 1) 4294967295
numbered n i r h k = omega (arith, h, k)

pub returns-in-Ok-Unexpected : goal.returns-in-Ok-Unexpected
returns-in-Ok-Unexpected g c =
    let same = c.as_slice-steps.ensures in
    let before : Scene = record { stage = c.loop-step.traced.stage; unread = string_bytes c.loop-step.traced.unread } in
    let after : Scene = record { stage = c.step-in-loop-step.new.self.stage; unread = string_bytes c.step-in-loop-step.new.self.unread } in (
      c.saturating_add-number.result,
      trace_ends c.args.placed.now.lines.items c.args.placed.now.script c.loop-step.step-index c.step-item.result c.saturating_add-number.result before _ _ _
          (subst (λ (xs : List NamedStep). c.loop-step.step-index < length xs) same c.loop-step-test.true) (subst (λ (xs : List NamedStep). c.step-item.result ≡ get_or xs c.loop-step.step-index c.step-item.result) same c.step-item.is)
          (numbered c.loop-step.number c.loop-step.step-index c.saturating_add-number.result c.loop-step.invariant.0 c.saturating_add-number.ensures) c.loop-step.invariant.1
          (Ok Unexpected) after
          (subst (λ (p : Option ℕ). StepTraced c.saturating_add-number.result p before c.step-item.result (g.O.Write.contents c.loop-step.writer) (g.O.Write.contents c.step-in-loop-step.new.writer) (Ok Unexpected) after) c.line_of.ensures
          (rw c.in-Ok-Unexpected.field-0-is at c.in-Ok-Unexpected.ensures)),
    )

pub returns-in-Err : goal.returns-in-Err
returns-in-Err g c =
    let same = c.as_slice-steps.ensures in
    let before : Scene = record { stage = c.loop-step.traced.stage; unread = string_bytes c.loop-step.traced.unread } in
    let after : Scene = record { stage = c.step-in-loop-step.new.self.stage; unread = string_bytes c.step-in-loop-step.new.self.unread } in
    inr (
      c.in-Err.fault,
      sym c.into-kind.ensures,
      trace_ends c.args.placed.now.lines.items c.args.placed.now.script c.loop-step.step-index c.step-item.result c.saturating_add-number.result before _ _ _
          (subst (λ (xs : List NamedStep). c.loop-step.step-index < length xs) same c.loop-step-test.true) (subst (λ (xs : List NamedStep). c.step-item.result ≡ get_or xs c.loop-step.step-index c.step-item.result) same c.step-item.is)
          (numbered c.loop-step.number c.loop-step.step-index c.saturating_add-number.result c.loop-step.invariant.0 c.saturating_add-number.ensures) c.loop-step.invariant.1
          (Err c.in-Err.fault) after
          (subst (λ (p : Option ℕ). StepTraced c.saturating_add-number.result p before c.step-item.result (g.O.Write.contents c.loop-step.writer) (g.O.Write.contents c.step-in-loop-step.new.writer) (Err c.in-Err.fault) after) c.line_of.ensures
          c.in-Err.ensures),
    )

pub loop-step-preserved : goal.loop-step-preserved
loop-step-preserved g c =
    let same = c.as_slice-steps.ensures in
    let before : Scene = record { stage = c.loop-step.traced.stage; unread = string_bytes c.loop-step.traced.unread } in
    let after : Scene = record { stage = c.step-in-loop-step.new.self.stage; unread = string_bytes c.step-in-loop-step.new.self.unread } in (
      numbered c.loop-step.number c.loop-step.step-index c.saturating_add-number.result c.loop-step.invariant.0 c.saturating_add-number.ensures,
      one_more_traced c.args.placed.now.lines.items c.args.placed.now.script c.loop-step.step-index c.step-item.result c.saturating_add-number.result before _ _ _
          (subst (λ (xs : List NamedStep). c.loop-step.step-index < length xs) same c.loop-step-test.true) (subst (λ (xs : List NamedStep). c.step-item.result ≡ get_or xs c.loop-step.step-index c.step-item.result) same c.step-item.is)
          (numbered c.loop-step.number c.loop-step.step-index c.saturating_add-number.result c.loop-step.invariant.0 c.saturating_add-number.ensures) c.loop-step.invariant.1
          after
          (subst (λ (p : Option ℕ). StepTraced c.saturating_add-number.result p before c.step-item.result (g.O.Write.contents c.loop-step.writer) (g.O.Write.contents c.step-in-loop-step.new.writer) (Ok Whole) after) c.line_of.ensures
          (rw c.in-Ok-Whole.field-0-is at c.in-Ok-Whole.ensures)),
    )
