-- As `proofs/Rowed.antt` has it.
use Rattle.pbft_model.proofs.Rowed.{due_allowed}
use Rattle.pbft_model.proofs.what_is_due_is_allowed.Goals as goal

pub returns : goal.returns
returns c setup me signer acts is = due_allowed setup me signer acts is
