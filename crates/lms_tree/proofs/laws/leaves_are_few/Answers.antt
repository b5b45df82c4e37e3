use Rattle.lms_tree.proofs.KeyLemmas.{few-leaves}
use Rattle.lms_tree.proofs.laws.leaves_are_few.Goals as goal

pub returns : goal.returns
returns c s = few-leaves s.height s.bottom
