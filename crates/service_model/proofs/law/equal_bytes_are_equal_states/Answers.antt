use Rattle.service_model.proofs.Injective.{same_state, same_decoded}
use Rattle.service_model.proofs.law.equal_bytes_are_equal_states.Goals as goal

pub returns : goal.returns
returns c = record { canonical = same_state; decoded = same_decoded }
