use Rattle.service_model.proofs.TenantsApart.{same_of_part, others_stay}
use Rattle.service_model.proofs.law.a_request_is_its_tenants.Goals as goal

pub returns : goal.returns
returns c = record { same = same_of_part; others = others_stay }
