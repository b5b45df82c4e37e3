use Rattle.std.proofs.Common.{◌∙◌, slice_index, w32}
use Rattle.std.proofs.lemmas.Simd.{Each1-get_or, below_from_Fits}
use Rattle.lms_ots.proofs.Blocks.{over_is}
use Rattle.lms_ots.proofs.LaneLemmas.{lane_below, shifted_over}
use Rattle.lms_ots.proofs.lanes.straddling.Goals as goal

pub returns : goal.returns
returns c j lt =
    shifted_over c.args.word c.fits-word.0 c.args.next c.fits-next.0 j lt
    ∙ over_is (slice_index c.args.word j) (slice_index c.args.next j) (lane_below c.args.word c.fits-word j lt) (lane_below c.args.next c.fits-next j lt)
