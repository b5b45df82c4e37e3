-- As `proofs/Halting.antt` has it.
use Rattle.pbft_model.proofs.Halting.{what_comes}
use Rattle.pbft_model.proofs.an_input_gives_a_row_or_a_halt.Goals as goal

pub returns : goal.returns
returns k c me s input first acts t begins follows on = what_comes c me s input first acts t begins follows on
