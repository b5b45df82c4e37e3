use Rattle.tenant_lanes.proofs.Picking.{PickedTo}
use Rattle.tenant_lanes.proofs.dealing.pick.Given as goal

abbrev pub invariant-loop-index : goal.invariant-loop-index
invariant-loop-index l = PickedTo l.lane l.lanes l.fn.slots l.index l.own.items l.slots
