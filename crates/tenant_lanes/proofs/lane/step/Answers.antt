use Rattle.std.proofs.Common.{◌<◌, length, subst, Option}
use Rattle.std.specs.Prelude.{IfSome}
use Rattle.tenant_lanes.proofs.OneLane.{took}
use Rattle.tenant_lanes.proofs.lane.step.Goals as goal

pub returns : goal.returns
returns c =
    took c.args.number c.args.slots.now c.args.place c.args.request.now c.in-Some.index c.in-Some-request.request c.index-slots-index.result c.in-Some-slots.part c.apply_at.new.self c.in_ok-outcome.outcome
    c.in-Some.is c.in-Some-request.is (subst (λ (p : Option _). IfSome p (λ index. index < length c.args.slots.now)) c.in-Some.is c.requires) c.in-Some-slots.is
    c.in_ok-outcome.ensures.step.0 c.in_ok-outcome.ensures.step.1
