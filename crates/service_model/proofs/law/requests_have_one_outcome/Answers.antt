use Rattle.service_model.specs.TenantStates.{genesis_of}
use Rattle.service_model.proofs.Determined.{same_follows, follows_more}
use Rattle.service_model.proofs.law.requests_have_one_outcome.Goals as goal

pub returns : goal.returns
returns c = record { one = λ config. same_follows (genesis_of config); more = λ config. follows_more (genesis_of config) }
