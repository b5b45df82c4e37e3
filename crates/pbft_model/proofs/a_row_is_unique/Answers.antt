-- As `proofs/Unique.antt` has it.
use Rattle.pbft_model.proofs.Unique.{one_row}
use Rattle.pbft_model.proofs.a_row_is_unique.Goals as goal

pub returns : goal.returns
returns c setup me s t t' row row' input next next' = one_row setup me s t t' row row' input next next'
