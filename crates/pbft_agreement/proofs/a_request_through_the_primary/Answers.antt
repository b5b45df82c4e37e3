-- As `proofs/Working.antt` has it.
use Rattle.pbft_agreement.proofs.Working.{primary_works}
use Rattle.pbft_agreement.proofs.a_request_through_the_primary.Goals as goal

pub returns : goal.returns
returns c id secret = primary_works id secret
