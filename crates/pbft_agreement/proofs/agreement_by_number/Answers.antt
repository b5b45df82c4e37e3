-- Agreement by number, as `proofs/ByNumber.antt` has it.
use Rattle.pbft_agreement.proofs.ByNumber.{agrees}
use Rattle.pbft_agreement.proofs.agreement_by_number.Goals as goal

pub returns : goal.returns
returns c = agrees
