use Rattle.std.proofs.Common.{◌≡◌, ℕ, ◌+◌, ◌<◌, List, Option, length, get_or, ap, subst, arith}
use Rattle.std.specs.Prelude.{min}
use Rattle.std.specs.String.{string_bytes}
use Rattle.script_text.specs.Orders.{named_in, ordered_named, ordered_step, step_in}
use Rattle.script_text.specs.declared.script.DeliveryOrder.{DeliveryOrder}
use Rattle.script_text.specs.declared.script.NamedStep.{NamedStep}
use Rattle.script_text.specs.declared.script.Step.{Step}
use Rattle.world_script.specs.Expecting.{Scene}
use Rattle.world_trace.specs.Searching.{StepExplored}
use Rattle.world_trace.specs.declared.explore.Outcome.{Outcome}
use Rattle.world_trace.proofs.Searching.{one_more, stops}
use Rattle.world_trace.proofs.explore.Explorer.outcome.Goals as goal

numbered : (n i r : ℕ) → n ≡ min i 4294967295 → r ≡ min (n + 1) 4294967295 → r ≡ min (i + 1) 4294967295
numbered n i r h k = omega (arith, h, k)

-- the step under the seed's order is the one under the seed
under_seed : (number seed : ℕ) (x : NamedStep) (before after : Scene) (order : DeliveryOrder) (o : Option Outcome) → step_in order x.step ≡ ordered_step seed x.step
    → StepExplored number before (named_in order x) o after → StepExplored number before (ordered_named seed x) o after
under_seed number seed x before after order o same e =
    subst (λ (y : NamedStep). StepExplored number before y o after) (ap (λ (s : Step). record x { step = s }) same) e

pub returns-in-Some : goal.returns-in-Some
returns-in-Some c =
    let same = c.as_slice-step-items.ensures in
    let before : Scene = record { stage = c.loop-step.self.stage; unread = string_bytes c.loop-step.self.unread } in
    let after : Scene = record { stage = c.step.new.self.stage; unread = string_bytes c.step.new.self.unread } in
    let explored = under_seed c.saturating_add-number.result c.args.seed c.step-item.result before after c.order_under.result _ c.order_under.ensures.step c.in_ok-outcome.ensures in
    stops c.args.script.now c.args.seed c.loop-step.step-index c.step-item.result c.saturating_add-number.result before after
    (subst (λ (xs : List NamedStep). c.loop-step.step-index < length xs) same c.loop-step-test.true) (subst (λ (xs : List NamedStep). c.step-item.result ≡ get_or xs c.loop-step.step-index c.step-item.result) same c.step-item.is)
    (numbered c.loop-step.number c.loop-step.step-index c.saturating_add-number.result c.loop-step.invariant.0 c.saturating_add-number.ensures) c.loop-step.invariant.1
    c.args.wanted c.in-Some.outcome
    (subst (λ o. StepExplored c.saturating_add-number.result before (ordered_named c.args.seed c.step-item.result) o after) c.in-Some.is explored)

pub loop-step-preserved : goal.loop-step-preserved
loop-step-preserved c =
    let same = c.as_slice-step-items.ensures in
    let before : Scene = record { stage = c.loop-step.self.stage; unread = string_bytes c.loop-step.self.unread } in
    let after : Scene = record { stage = c.step.new.self.stage; unread = string_bytes c.step.new.self.unread } in
    let explored = under_seed c.saturating_add-number.result c.args.seed c.step-item.result before after c.order_under.result _ c.order_under.ensures.step c.in_ok-outcome.ensures in (
      numbered c.loop-step.number c.loop-step.step-index c.saturating_add-number.result c.loop-step.invariant.0 c.saturating_add-number.ensures,
      one_more c.args.script.now c.args.seed c.loop-step.step-index c.step-item.result c.saturating_add-number.result before after
          (subst (λ (xs : List NamedStep). c.loop-step.step-index < length xs) same c.loop-step-test.true) (subst (λ (xs : List NamedStep). c.step-item.result ≡ get_or xs c.loop-step.step-index c.step-item.result) same c.step-item.is)
          (numbered c.loop-step.number c.loop-step.step-index c.saturating_add-number.result c.loop-step.invariant.0 c.saturating_add-number.ensures) c.loop-step.invariant.1
          (subst (λ o. StepExplored c.saturating_add-number.result before (ordered_named c.args.seed c.step-item.result) o after) c.in_default.is explored),
    )
