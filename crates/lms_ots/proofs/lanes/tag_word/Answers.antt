use Rattle.std.proofs.Common.{◌∙◌, slice_index}
use Rattle.lms_ots.proofs.Blocks.{heads_is}
use Rattle.lms_ots.proofs.LaneLemmas.{lane_below, shifted_heads}
use Rattle.lms_ots.proofs.lanes.tag_word.Goals as goal

pub returns : goal.returns
returns c j lt =
    shifted_heads c.args.chains c.fits-chains.0 c.args.steps c.fits-steps.0 c.args.first c.fits-first.0 j lt
    ∙ heads_is (slice_index c.args.chains j) (slice_index c.args.steps j) (slice_index c.args.first j)
    (c.requires.chains j lt) (c.requires.steps j lt) (lane_below c.args.first c.fits-first j lt)
