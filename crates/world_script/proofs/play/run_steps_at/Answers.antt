use Rattle.std.proofs.Common.{◌≡◌, ℕ, ◌+◌, ◌<◌, List, length, get_or, sym, subst, arith}
use Rattle.std.specs.Prelude.{min}
use Rattle.std.specs.String.{string_bytes}
use Rattle.script_text.specs.ScriptKind.{ScriptKind}
use Rattle.script_text.specs.declared.script.NamedStep.{NamedStep}
use Rattle.world_script.specs.Expecting.{Scene}
use Rattle.world_script.specs.Running.{Fails}
use Rattle.world_script.proofs.Playing.{fails, one_more_done, stops_unexpected}
use Rattle.world_script.proofs.play.run_steps_at.Goals as goal

numbered : (n i r : ℕ) → n ≡ min i 4294967295 → r ≡ min (n + 1) 4294967295 → r ≡ min (i + 1) 4294967295
numbered n i r h k = omega (arith, h, k)

pub returns-in-Err : goal.returns-in-Err
returns-in-Err g c =
    let same = c.as_slice-step-items.ensures in
    let before : Scene = record { stage = c.loop-step.stage; unread = string_bytes c.loop-step.unread } in
    let after : Scene = record { stage = c.run_step.new.stage; unread = string_bytes c.run_step.new.unread } in
    subst (λ (k : ScriptKind). Fails k c.args.script.now c.saturating_add-number.result (g.O.Write.contents c.args.writer.now) (g.O.Write.contents c.run_step.new.writer)) (sym c.into-kind.ensures)
    (fails c.in-Err.fault c.args.script.now c.loop-step.step-index c.step-item.result c.saturating_add-number.result before after _ _ _
    (subst (λ (xs : List NamedStep). c.loop-step.step-index < length xs) same c.loop-step-test.true) (subst (λ (xs : List NamedStep). c.step-item.result ≡ get_or xs c.loop-step.step-index c.step-item.result) same c.step-item.is)
    (numbered c.loop-step.number c.loop-step.step-index c.saturating_add-number.result c.loop-step.invariant.0 c.saturating_add-number.ensures) c.loop-step.invariant.1 c.in-Err.ensures.0)

pub returns-in-Ok-Unexpected : goal.returns-in-Ok-Unexpected
returns-in-Ok-Unexpected g c =
    let same = c.as_slice-step-items.ensures in
    let before : Scene = record { stage = c.loop-step.stage; unread = string_bytes c.loop-step.unread } in
    let after : Scene = record { stage = c.run_step.new.stage; unread = string_bytes c.run_step.new.unread } in
    stops_unexpected c.args.script.now c.loop-step.step-index c.step-item.result c.saturating_add-number.result before after _ _ _
    (subst (λ (xs : List NamedStep). c.loop-step.step-index < length xs) same c.loop-step-test.true) (subst (λ (xs : List NamedStep). c.step-item.result ≡ get_or xs c.loop-step.step-index c.step-item.result) same c.step-item.is)
    (numbered c.loop-step.number c.loop-step.step-index c.saturating_add-number.result c.loop-step.invariant.0 c.saturating_add-number.ensures) c.loop-step.invariant.1
    (rw c.in-Ok-Unexpected.field-0-is at c.in-Ok-Unexpected.ensures.0)

pub loop-step-preserved : goal.loop-step-preserved
loop-step-preserved g c =
    let same = c.as_slice-step-items.ensures in
    let before : Scene = record { stage = c.loop-step.stage; unread = string_bytes c.loop-step.unread } in
    let after : Scene = record { stage = c.run_step.new.stage; unread = string_bytes c.run_step.new.unread } in (
      numbered c.loop-step.number c.loop-step.step-index c.saturating_add-number.result c.loop-step.invariant.0 c.saturating_add-number.ensures,
      one_more_done c.args.script.now c.loop-step.step-index c.step-item.result c.saturating_add-number.result before after _ _ _
          (subst (λ (xs : List NamedStep). c.loop-step.step-index < length xs) same c.loop-step-test.true) (subst (λ (xs : List NamedStep). c.step-item.result ≡ get_or xs c.loop-step.step-index c.step-item.result) same c.step-item.is)
          c.loop-step.invariant.1 (rw c.in-Ok-Whole.field-0-is at c.in-Ok-Whole.ensures.0),
    )
