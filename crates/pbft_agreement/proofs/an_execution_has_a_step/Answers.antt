use Rattle.pbft_agreement.proofs.Stepping.{service_steps, execution_goes}
use Rattle.pbft_agreement.proofs.an_execution_has_a_step.Goals as goal

pub returns : goal.returns
returns k = record { step = service_steps; act = execution_goes }
