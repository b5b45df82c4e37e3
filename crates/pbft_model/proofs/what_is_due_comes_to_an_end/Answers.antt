-- As `proofs/Ending.antt` has it.
use Rattle.pbft_model.proofs.Ending.{less_to_do}
use Rattle.pbft_model.proofs.what_is_due_comes_to_an_end.Goals as goal

pub returns : goal.returns
returns c setup me s a low small view ok does has = less_to_do setup me s a low small view ok does has
