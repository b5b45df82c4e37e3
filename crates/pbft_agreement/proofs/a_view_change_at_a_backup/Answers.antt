-- As `proofs/Working.antt` has it.
use Rattle.pbft_agreement.proofs.Working.{joins}
use Rattle.pbft_agreement.proofs.a_view_change_at_a_backup.Goals as goal

pub returns : goal.returns
returns c id secret = joins id secret
