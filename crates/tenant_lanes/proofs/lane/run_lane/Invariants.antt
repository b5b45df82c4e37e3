use Rattle.std.proofs.Common.{◌≡◌, take, length}
use Rattle.tenant_lanes.specs.Runs.{LaneRuns}
use Rattle.tenant_lanes.proofs.lane.run_lane.Given as goal

abbrev pub invariant-loop-i : goal.invariant-loop-i
invariant-loop-i g l = record {
  runs : LaneRuns l.number l.initial.slots.items (take l.i l.places) (take l.i l.requests) l.slots.items l.outcomes.items;
  same : length l.slots.items ≡ length l.initial.slots.items;
}
