-- The honest family, as `proofs/Example.antt` has it.
use Rattle.pbft_agreement.proofs.Example.{is_honest, has_executed}
use Rattle.pbft_agreement.proofs.an_honest_family_executes.Goals as goal

pub returns : goal.returns
returns c = record { honest = is_honest; executes = has_executed }
