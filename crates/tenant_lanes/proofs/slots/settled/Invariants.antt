use Rattle.std.proofs.Common.{◌≡◌, ◌+◌, length}
use Rattle.tenant_lanes.specs.Settled.{settled}
use Rattle.tenant_lanes.proofs.slots.settled.Given as goal

abbrev pub invariant-loop-slot : goal.invariant-loop-slot
invariant-loop-slot l = record {
  outcomes : l.outcomes.items ≡ settled l.initial.number l.yielded;
  number : l.number ≡ l.initial.number + length l.yielded;
}
