use Rattle.lms_ots.proofs.LaneLemmas.{lessened}
use Rattle.lms_ots.proofs.lanes.less.Goals as goal

pub returns : goal.returns
returns c = lessened c.args.a c.fits-a.0 c.args.b c.fits-b.0
