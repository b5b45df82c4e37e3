use Rattle.byz_world.proofs.RecordLaws.{records_pass}
use Rattle.byz_world.proofs.laws.honest_records_pass.Goals as goal

pub returns : goal.returns
returns c = λ setup j records answer honest are is. records_pass setup j honest records are answer is
