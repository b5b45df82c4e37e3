use Rattle.std.proofs.Common.{◌∙◌, slice_index}
use Rattle.std.proofs.lemmas.Bool.{cond-false, cond-true, le-ltb, lt-ltb}
use Rattle.lms_ots.proofs.LaneLemmas.{selected}
use Rattle.lms_ots.proofs.lanes.where_below.Goals as goal

pub returns-clause-below : goal.returns-clause-below
returns-clause-below c j lt low =
    selected c.args.a c.args.b c.args.x c.args.y c.fits-a.0 c.fits-b.0 c.fits-x.0 c.fits-y.0 j lt ∙ cond-true _ _ _ (lt-ltb _ _ low)

pub returns-clause-others : goal.returns-clause-others
returns-clause-others c j lt high =
    selected c.args.a c.args.b c.args.x c.args.y c.fits-a.0 c.fits-b.0 c.fits-x.0 c.fits-y.0 j lt ∙ cond-false _ _ _ (le-ltb _ _ high)
