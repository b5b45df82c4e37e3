-- As `proofs/Working.antt` has it.
use Rattle.pbft_agreement.proofs.Working.{backup_works}
use Rattle.pbft_agreement.proofs.a_request_through_a_backup.Goals as goal

pub returns : goal.returns
returns c id secret = backup_works id secret
