use Rattle.std.proofs.Common.{◌≡◌, ℕ, ◌-◌, ◌<◌, min, slice_index}
use Rattle.sha_lanes.specs.Lanes.{hash_in}
use Rattle.lms_ots.specs.Ots.{chain}
use Rattle.lms_ots.specs.Words.{bytes_of}
use Rattle.lms_ots.proofs.lanes.run_lanes.Given as goal

abbrev pub invariant-steps : goal.invariant-steps
invariant-steps l = (j : ℕ) → j < 8 → bytes_of (hash_in l.values j)
    ≡ chain l.id (slice_index l.leaves j) (slice_index l.chains j) (slice_index l.fn.froms j) (min (l.step - slice_index l.fn.froms j) (slice_index l.fn.counts j))
    (bytes_of (hash_in l.fn.values j))
