use Rattle.lms_tree.proofs.KeyLemmas.{other-leaf}
use Rattle.lms_tree.proofs.laws.no_leaf_signs_twice.Goals as goal

pub returns : goal.returns
returns c s n m first second small smaller same = other-leaf s.height s.bottom s.id s.secret n m first second small smaller same
