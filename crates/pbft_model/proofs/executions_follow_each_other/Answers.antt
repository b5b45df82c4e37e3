-- Executions in a row, as `proofs/Following.antt` has it.
use Rattle.pbft_model.proofs.Following.{alone, replied}
use Rattle.pbft_model.proofs.executions_follow_each_other.Goals as goal

pub returns : goal.returns
returns c = record { alone = alone; replied = replied }
