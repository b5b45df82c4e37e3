use Rattle.service_model.proofs.Determined.{same_step}
use Rattle.service_model.proofs.law.a_step_has_one_outcome.Goals as goal

pub returns : goal.returns
returns c = same_step
