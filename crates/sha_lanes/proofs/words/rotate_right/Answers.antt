use Rattle.sha_lanes.proofs.LaneLemmas.{shifts_rotate}
use Rattle.sha_lanes.proofs.words.rotate_right.Goals as goal

pub returns : goal.returns
returns c = shifts_rotate c.args.by c.requires.0 c.requires.1 c.args.x c.fits-x.0
