use Rattle.lms_tree.proofs.KeyLemmas.{length-signature_by, short-signature}
use Rattle.lms_tree.proofs.ShortLemmas.{valid-short}
use Rattle.lms_tree.proofs.laws.signatures_are_short.Goals as goal

pub returns-clause-long : goal.returns-clause-long
returns-clause-long c s message = length-signature_by s.height s.bottom s.id s.secret s.next_leaf message

pub returns-clause-bounded : goal.returns-clause-bounded
returns-clause-bounded c s = short-signature s.height s.bottom

pub returns-clause-valid : goal.returns-clause-valid
returns-clause-valid c key message sig valid = valid-short key message sig valid
