use Rattle.sha_lanes.proofs.LaneLemmas.{shifts}
use Rattle.sha_lanes.proofs.words.shift_right.Goals as goal

pub returns : goal.returns
returns c = shifts c.args.by c.requires c.args.x c.fits-x.0
