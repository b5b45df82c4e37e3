-- As `proofs/Executing.antt` has it.
use Rattle.pbft_answers.proofs.Executing.{all_execute}
use Rattle.pbft_answers.proofs.until_a_mark_rises_all_execute_all.Goals as goal

pub returns : goal.returns
returns k = λ c j h drained first unmoved leader spread x proposed. all_execute c j h first leader drained unmoved spread x proposed
