-- As `proofs/Working.antt` has it.
use Rattle.pbft_agreement.proofs.Working.{checkpoints, discards}
use Rattle.pbft_agreement.proofs.a_checkpoint_at_a_backup.Goals as goal

pub returns : goal.returns
returns c = record { works = checkpoints; discards = discards }
