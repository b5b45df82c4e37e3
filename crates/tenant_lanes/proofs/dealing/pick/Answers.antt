use Rattle.std.proofs.Common.{◌+◌, ◌<◌, [], ◌∷◌, ◌++◌, length, set, sym, subst, ◌∙◌, arith}
use Rattle.tenant_lanes.specs.Runs.{Slots}
use Rattle.tenant_lanes.proofs.Picking.{PickedTo, is_picked, is_left, all_left}
use Rattle.tenant_lanes.proofs.dealing.pick.Goals as goal
use Rattle.tenant_lanes.proofs.dealing.pick.Goals.{then-is_number+in_ok-push, else-is_number+in_ok-push-2}

pub loop-index-preserved : goal.loop-index-preserved
loop-index-preserved c =
    let lane = c.args.lane in
    let lanes = c.args.lanes.now in
    let slots = c.args.slots.now in
    let index = c.loop-index.index in
    elim c.if-is_number.branch [
      | then-is_number+in_ok-push w ↦
          let lt : index < length slots = omega (arith, c.loop-index.auto.slots, c.loop-index-test.true) in
          is_picked lane lanes slots index c.loop-index.own.items c.loop-index.slots c.loop-index.invariant lt
          w.index-slots-index.result c.if-is_number.own.items c.if-is_number.slots (sym c.is_number.ensures ∙ w.if-is_number.true) w.index-slots-index.is
          ((λ i. (w.own-is i).items) ∙ w.in_ok-push.ensures.items ∙ (λ i. c.loop-index.own.items ++ (w.take.ensures.value ∙ sym w.index-slots-index.is) i ∷ [])) (w.slots-is ∙ (λ i. set c.loop-index.slots index (w.take.ensures.after i)))
      | else-is_number+in_ok-push-2 w ↦
          let lt : index < length slots = omega (arith, c.loop-index.auto.slots, c.loop-index-test.true) in
          let same = is_left lane lanes slots index c.loop-index.own.items c.loop-index.slots c.loop-index.invariant lt c.if-is_number.own.items (sym c.is_number.ensures ∙ w.if-is_number.false)
          ((λ i. (w.own-is i).items) ∙ w.in_ok-push-2.ensures.items) in
          subst (λ (s : Slots). PickedTo lane lanes slots (index + 1) c.if-is_number.own.items s) (sym w.slots-is) same
    ]

pub returns-clause-left : goal.returns-clause-left
returns-clause-left c = all_left c.args.lane c.args.lanes.now c.args.slots.now c.loop-index.index c.loop-index.own.items c.loop-index.slots c.loop-index.invariant c.loop-index-test.false
