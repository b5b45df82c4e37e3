use Rattle.std.proofs.Common.{ℕ, refl, slice_index}
use Rattle.sha2.specs.Sha256.{digest_bytes}
use Rattle.lms_ots.specs.Words.{bytes_of}
use Rattle.lms_ots.proofs.LaneLemmas.{same_in_each}
use Rattle.lms_ots.proofs.eight.in_each.Goals as goal

pub returns : goal.returns
unfolding bytes_of digest_bytes
returns c l lt =
    let w = c.args.words.now in
    rw (
      same_in_each (slice_index w 0) l lt,
      same_in_each (slice_index w 1) l lt,
      same_in_each (slice_index w 2) l lt,
      same_in_each (slice_index w 3) l lt,
      same_in_each (slice_index w 4) l lt,
      same_in_each (slice_index w 5) l lt,
      same_in_each (slice_index w 6) l lt,
      same_in_each (slice_index w 7) l lt,
    )
    refl
