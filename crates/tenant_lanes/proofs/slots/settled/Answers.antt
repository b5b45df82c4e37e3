use Rattle.std.proofs.Common.{◌+◌, ◌++◌, ◌∷◌, [], ◌∙◌, sym, arith}
use Rattle.std.proofs.lemmas.List.{length_push}
use Rattle.tenant_lanes.proofs.OneLane.{settled_more}
use Rattle.tenant_lanes.proofs.slots.settled.Goals as goal

pub loop-slot-preserved : goal.loop-slot-preserved
loop-slot-preserved c =
    record {
      outcomes =
          c.in_ok-push.ensures.items ∙ (λ i. c.loop-slot.invariant.outcomes i ++ c.outcome_of.ensures i ∷ [])
          ∙ sym (settled_more c.args.number (c.loop-slot.number + 1) c.loop-slot.yielded c.in-Some.slot (omega (arith, c.loop-slot.invariant.number)));
      number = omega (arith, length_push c.loop-slot.yielded c.in-Some.slot, c.loop-slot.invariant.number);
    }
