use Rattle.service_model.proofs.Existing.{step_exists, serves_exist}
use Rattle.service_model.proofs.law.a_step_exists.Goals as goal

pub returns : goal.returns
returns c = record { one = λ state request bounded. step_exists state request bounded.same_tenants; all = serves_exist }
