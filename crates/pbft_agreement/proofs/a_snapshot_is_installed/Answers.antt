-- As `proofs/Working.antt` has it.
use Rattle.pbft_agreement.proofs.Working.{installs}
use Rattle.pbft_agreement.proofs.a_snapshot_is_installed.Goals as goal

pub returns : goal.returns
returns c = installs
