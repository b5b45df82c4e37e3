-- As `Ending.antt` has it.
use Rattle.script_laws.proofs.Ending.{one_end}
use Rattle.script_laws.proofs.a_script_ends_in_one_way.Goals as goal

pub returns : goal.returns
returns c = one_end
