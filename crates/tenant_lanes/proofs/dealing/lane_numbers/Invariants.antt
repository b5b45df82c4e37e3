use Rattle.std.proofs.Common.{◌≡◌, ◌≤◌, map}
use Rattle.std.specs.List.{range_with_len}
use Rattle.tenant_lanes.specs.Dealing.{turns, lane_of}
use Rattle.tenant_lanes.proofs.dealing.lane_numbers.Given as goal

abbrev pub invariant-loop-index : goal.invariant-loop-index
invariant-loop-index l = record {
  lanes : l.lanes.items ≡ map (lane_of l.workers l.places) (range_with_len 0 l.index);
  turn : l.turn ≡ turns l.places l.index;
  few : l.turn ≤ l.index;
}
