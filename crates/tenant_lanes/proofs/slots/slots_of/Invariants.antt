use Rattle.std.proofs.Common.{◌≡◌, map, Some}
use Rattle.tenant_lanes.proofs.slots.slots_of.Given as goal

abbrev pub invariant-loop-item : goal.invariant-loop-item
invariant-loop-item g l = l.slots.items ≡ map Some l.yielded
