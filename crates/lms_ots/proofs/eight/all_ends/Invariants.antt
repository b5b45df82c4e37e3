use Rattle.std.proofs.Common.{◌≡◌, ℕ, ◌<◌, [], length, slice_index, slice_index_or}
use Rattle.lms_ots.specs.Ots.{chain, chain_start}
use Rattle.lms_ots.specs.Words.{bytes_of}
use Rattle.lms_ots.proofs.eight.all_ends.Given as goal

abbrev pub invariant-chains : goal.invariant-chains
invariant-chains a = (length a.ends ≡ 67) × ((k : ℕ) → k < a.i → (l : ℕ) → l < 8 → bytes_of (slice_index_or (slice_index_or a.ends k []) l [])
    ≡ chain a.id (slice_index a.leaves l) k 0 15 (chain_start a.id (slice_index a.leaves l) (bytes_of a.secret) k))
