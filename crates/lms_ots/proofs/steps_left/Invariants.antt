use Rattle.std.proofs.Common.{◌≡◌, ℕ, ◌-◌, ◌<◌, length, slice_index}
use Rattle.lms_ots.proofs.steps_left.Given as goal

abbrev pub invariant-chains : goal.invariant-chains
invariant-chains l = (length l.counts ≡ 67) × ((k : ℕ) → k < l.i → slice_index l.counts k ≡ 15 - slice_index l.digits k)
