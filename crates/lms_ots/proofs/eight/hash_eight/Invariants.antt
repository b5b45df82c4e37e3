use Rattle.std.proofs.Common.{◌≡◌, ℕ, ◌<◌, [], slice_index_or}
use Rattle.sha2.specs.Sha256.{hash_after, initial_hash_256}
use Rattle.sha_lanes.specs.Lanes.{hash_in}
use Rattle.lms_ots.proofs.eight.hash_eight.Given as goal

abbrev pub invariant-hashing : goal.invariant-hashing
invariant-hashing a = (l : ℕ) → l < 8 → hash_in a.hash l ≡ hash_after initial_hash_256 (slice_index_or a.messages l []) a.b
