-- As `proofs/Halting.antt` has it.
use Rattle.pbft_model.proofs.Halting.{row_or_halt, one_halt}
use Rattle.pbft_model.proofs.a_row_is_no_halt.Goals as goal

pub returns : goal.returns
returns k = record { apart = row_or_halt; one = one_halt }
