use Rattle.pbft_model.proofs.DoneTogether.{done_together}
use Rattle.pbft_model.proofs.together.executions_are_done_together.Goals as goal

pub returns : goal.returns
returns c = done_together
