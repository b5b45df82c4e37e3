-- Agreement over journals, as `proofs/OverJournals.antt` has it.
use Rattle.pbft_agreement.proofs.OverJournals.{agrees_over}
use Rattle.pbft_agreement.proofs.agreement.Goals as goal

pub returns : goal.returns
returns c = agrees_over
