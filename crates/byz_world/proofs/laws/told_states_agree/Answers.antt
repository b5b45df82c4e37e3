use Rattle.byz_world.proofs.WorldAudits.{told_state}
use Rattle.byz_world.proofs.laws.told_states_agree.Goals as goal

pub returns : goal.returns
returns c = told_state
