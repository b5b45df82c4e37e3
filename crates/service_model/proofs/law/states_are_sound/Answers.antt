use Rattle.service_model.proofs.Soundness.{genesis_sound, step_sound}
use Rattle.service_model.proofs.law.states_are_sound.Goals as goal

pub returns : goal.returns
returns c = record { first = genesis_sound; next = step_sound }
