use Rattle.std.proofs.Common.{ℕ, ◌+◌, ◌<◌, ◌≤◌, ◌^◌, slice_index}
use Rattle.lms_ots.proofs.lanes.end_of_all.Given as goal

abbrev pub invariant-lanes : goal.invariant-lanes
invariant-lanes l = record {
  behind : (k : ℕ) → k < l.j → slice_index l.froms k + slice_index l.counts k ≤ l.end;
  most : l.end ≤ 2 ^ 8;
}
