use Rattle.std.proofs.Common.{◌≡◌, ℕ, ◌<◌, length, slice_index, slice_index_or, true, false}
use Rattle.lms_ots.specs.Words.{HoldEnds, end_of}
use Rattle.lms_ots.proofs.leaf.LeafChains.run_eight.Given as goal

abbrev pub invariant-lanes : goal.invariant-lanes
invariant-lanes c = record {
  ends : HoldEnds (end_of c.self.id.now c.self.leaf c.self.froms.now c.self.counts.now c.self.starts.now) c.ends.words c.ends.has_ended;
  kept : (i : ℕ) → slice_index_or c.fn.ends.has_ended i false ≡ true → slice_index_or c.ends.has_ended i false ≡ true;
  ended : (k : ℕ) → k < c.l → slice_index_or c.ends.has_ended (slice_index c.eight k) false ≡ true;
}
