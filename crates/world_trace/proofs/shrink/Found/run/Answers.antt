use Rattle.std.proofs.Common.{◌≡◌, ℕ, ◌+◌, ◌<◌, ◌≤◌, ◌∙◌, List, length, get_or, ap, subst, arith}
use Rattle.std.specs.Prelude.{min}
use Rattle.std.specs.String.{string_bytes}
use Rattle.script_text.specs.Orders.{named_in}
use Rattle.script_text.specs.declared.script.DeliveryOrder.{DeliveryOrder}
use Rattle.script_text.specs.declared.script.NamedStep.{NamedStep}
use Rattle.world_script.specs.Expecting.{Scene}
use Rattle.world_trace.specs.Searches.{in_order}
use Rattle.world_trace.specs.Searching.{StepExplored}
use Rattle.world_trace.specs.Shrinking.{order_at}
use Rattle.world_trace.proofs.Searching.{judged_in, one_more_in, stops_in, unmoved}
use Rattle.world_trace.proofs.shrink.Found.run.Goals as goal

numbered : (n i r : ℕ) → n ≡ min i 4294967295 → r ≡ min (n + 1) 4294967295 → r ≡ min (i + 1) 4294967295
numbered n i r h k = omega (arith, h, k)

pub returns-in-Some : goal.returns-in-Some
returns-in-Some c =
    let same = c.as_slice-step-items.ensures in
    let before : Scene = record { stage = c.loop-step.explorer.stage; unread = string_bytes c.loop-step.explorer.unread } in
    let after : Scene = record { stage = c.step.new.self.stage; unread = string_bytes c.step.new.self.unread } in
    let order : c.in_ok-order.order ≡ order_at c.args.orders c.args.self.finding.seed c.loop-step.step-index c.step-item.result.step =
    c.in_ok-order.ensures ∙ ap (λ (n : ℕ). order_at c.args.orders c.args.self.finding.seed n c.step-item.result.step) c.loop-step.invariant.1 in
    stops_in c.args.self.script.now (order_at c.args.orders c.args.self.finding.seed) c.loop-step.step-index c.step-item.result c.saturating_add-number.result before after
    (subst (λ (xs : List NamedStep). c.loop-step.step-index < length xs) same c.loop-step-test.true) (subst (λ (xs : List NamedStep). c.step-item.result ≡ get_or xs c.loop-step.step-index c.step-item.result) same c.step-item.is)
    (numbered c.loop-step.number c.loop-step.step-index c.saturating_add-number.result c.loop-step.invariant.0 c.saturating_add-number.ensures) c.loop-step.invariant.2
    c.args.self.finding.wanted c.in-Some.outcome
    (subst (λ o. StepExplored c.saturating_add-number.result before (named_in (order_at c.args.orders c.args.self.finding.seed c.loop-step.step-index c.step-item.result.step) c.step-item.result) o after) c.in-Some.is
    (subst (λ (o : DeliveryOrder). StepExplored c.saturating_add-number.result before (named_in o c.step-item.result) c.in_ok-ended.ended after) order c.in_ok-ended.ensures))

pub loop-step-preserved : goal.loop-step-preserved
loop-step-preserved c =
    let same = c.as_slice-step-items.ensures in
    let before : Scene = record { stage = c.loop-step.explorer.stage; unread = string_bytes c.loop-step.explorer.unread } in
    let after : Scene = record { stage = c.step.new.self.stage; unread = string_bytes c.step.new.self.unread } in
    let order : c.in_ok-order.order ≡ order_at c.args.orders c.args.self.finding.seed c.loop-step.step-index c.step-item.result.step =
    c.in_ok-order.ensures ∙ ap (λ (n : ℕ). order_at c.args.orders c.args.self.finding.seed n c.step-item.result.step) c.loop-step.invariant.1 in (
      numbered c.loop-step.number c.loop-step.step-index c.saturating_add-number.result c.loop-step.invariant.0 c.saturating_add-number.ensures,
      ap (λ (n : ℕ). n + 1) c.loop-step.invariant.1,
      unmoved (in_order (order_at c.args.orders c.args.self.finding.seed) c.args.self.script.now) (c.loop-step.step-index + 1) after
          (record { stage = c.take_passed-choices.new.self.stage; unread = string_bytes c.take_passed-choices.new.self.unread }) c.take_passed-choices.ensures.stage c.take_passed-choices.ensures.unread
          (one_more_in c.args.self.script.now (order_at c.args.orders c.args.self.finding.seed) c.loop-step.step-index c.step-item.result c.saturating_add-number.result before after
          (subst (λ (xs : List NamedStep). c.loop-step.step-index < length xs) same c.loop-step-test.true) (subst (λ (xs : List NamedStep). c.step-item.result ≡ get_or xs c.loop-step.step-index c.step-item.result) same c.step-item.is)
          (numbered c.loop-step.number c.loop-step.step-index c.saturating_add-number.result c.loop-step.invariant.0 c.saturating_add-number.ensures) c.loop-step.invariant.2
          (subst (λ o. StepExplored c.saturating_add-number.result before (named_in (order_at c.args.orders c.args.self.finding.seed c.loop-step.step-index c.step-item.result.step) c.step-item.result) o after) c.in_default.is
          (subst (λ (o : DeliveryOrder). StepExplored c.saturating_add-number.result before (named_in o c.step-item.result) c.in_ok-ended.ended after) order c.in_ok-ended.ensures))),
    )

pub returns : goal.returns
returns c =
    let same = c.as_slice-step-items.ensures in
    let last : Scene = record { stage = c.loop-step.explorer.stage; unread = string_bytes c.loop-step.explorer.unread } in
    judged_in c.args.self.script.now (order_at c.args.orders c.args.self.finding.seed) c.loop-step.step-index last (subst (λ (xs : List NamedStep). length xs ≤ c.loop-step.step-index) same c.loop-step-test.false)
    c.loop-step.invariant.2 c.args.self.finding.wanted _ c.in_ok-outcome.ensures
