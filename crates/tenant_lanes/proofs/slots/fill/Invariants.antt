use Rattle.std.proofs.Common.{◌≡◌, ◌≤◌, length}
use Rattle.tenant_lanes.specs.Runs.{filled}
use Rattle.tenant_lanes.proofs.slots.fill.Given as goal

abbrev pub invariant-loop-slot : goal.invariant-loop-slot
invariant-loop-slot g l = record {
  filled : filled l.from.items l.slots ≡ filled l.fn.from.items l.fn.slots;
  short : length l.from.items ≤ length l.slots;
}

abbrev pub decreases-loop-slot : goal.decreases-loop-slot
decreases-loop-slot g l = length l.from.items
