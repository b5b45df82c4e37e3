use Rattle.std.proofs.Common.{◌≡◌, map, Some}
use Rattle.tenant_lanes.proofs.slots.items_of.Given as goal

abbrev pub invariant-loop-slot : goal.invariant-loop-slot
invariant-loop-slot g l = map Some l.items.items ≡ l.yielded
