use Rattle.service_model.proofs.Decided.{decided}
use Rattle.service_model.proofs.law.an_encoding_is_decided.Goals as goal

pub returns : goal.returns
returns c = decided
