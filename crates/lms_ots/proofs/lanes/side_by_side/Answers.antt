use Rattle.sha2.specs.Sha256.{digest_bytes}
use Rattle.lms_ots.specs.Words.{bytes_of}
use Rattle.lms_ots.proofs.lanes.side_by_side.Goals as goal

pub returns : goal.returns
unfolding bytes_of digest_bytes
returns c l lt =
    rw (
      c.column.ensures l lt,
      c.column-2.ensures l lt,
      c.column-3.ensures l lt,
      c.column-4.ensures l lt,
      c.column-5.ensures l lt,
      c.column-6.ensures l lt,
      c.column-7.ensures l lt,
      c.column-8.ensures l lt,
    )
