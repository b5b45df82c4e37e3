use Rattle.std.proofs.Common.{◌≡◌, ℕ, ◌<◌, [], length, slice_index_or}
use Rattle.lms_ots.specs.Ots.{value_in}
use Rattle.lms_ots.specs.Words.{bytes_of}
use Rattle.lms_ots.proofs.values_in.Given as goal

abbrev pub invariant-chains : goal.invariant-chains
invariant-chains l = (length l.values ≡ 67) × ((k : ℕ) → k < l.i → bytes_of (slice_index_or l.values k []) ≡ value_in l.signature k)
