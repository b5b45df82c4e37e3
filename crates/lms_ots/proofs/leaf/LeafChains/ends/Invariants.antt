use Rattle.std.proofs.Common.{◌≡◌, ℕ, ◌<◌, slice_index_or, true, false}
use Rattle.lms_ots.specs.Words.{HoldEnds, end_of}
use Rattle.lms_ots.proofs.leaf.LeafChains.ends.Given as goal

abbrev pub invariant-groups : goal.invariant-groups
invariant-groups l = HoldEnds (end_of l.self.id.now l.self.leaf l.self.froms.now l.self.counts.now l.self.starts.now) l.ends.words l.ends.has_ended

abbrev pub invariant-left : goal.invariant-left
invariant-left l = record {
  ends : HoldEnds (end_of l.self.id.now l.self.leaf l.self.froms.now l.self.counts.now l.self.starts.now) l.ends.words l.ends.has_ended;
  all : (k : ℕ) → k < l.i → slice_index_or l.ends.has_ended k false ≡ true;
}
