-- As `proofs/Executing.antt` has it.
use Rattle.pbft_model.proofs.Executing.{executes_alike}
use Rattle.pbft_model.proofs.executions_agree.Goals as goal

pub returns : goal.returns
returns c setup family unforged = executes_alike setup family unforged
