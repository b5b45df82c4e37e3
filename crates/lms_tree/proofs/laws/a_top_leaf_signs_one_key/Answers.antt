use Rattle.lms_tree.proofs.KeyLemmas.{one-key}
use Rattle.lms_tree.proofs.laws.a_top_leaf_signs_one_key.Goals as goal

pub returns : goal.returns
returns c top bottom id secret n m first second small smaller same = one-key top bottom id secret n m first second small smaller same
