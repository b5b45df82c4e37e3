-- As `proofs/OverJournals.antt` has it.
use Rattle.pbft_agreement.proofs.OverJournals.{each_executed}
use Rattle.pbft_agreement.proofs.each_number_was_executed.Goals as goal

pub returns : goal.returns
returns c setup journals honest = each_executed setup journals honest
