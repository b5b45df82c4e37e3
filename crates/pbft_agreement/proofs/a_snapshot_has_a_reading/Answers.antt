-- As `proofs/Giving.antt` has it.
use Rattle.pbft_agreement.proofs.Giving.{snapshot_read}
use Rattle.pbft_agreement.proofs.a_snapshot_has_a_reading.Goals as goal

pub returns : goal.returns
returns c = snapshot_read
