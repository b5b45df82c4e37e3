-- As `Claimed.antt` has it.
use Rattle.journal_laws.proofs.Claimed.{not_blamed_by_leaf}
use Rattle.journal_laws.proofs.who_signs_twice_with_a_leaf_is_faulty.Goals as goal

pub returns : goal.returns
returns c = not_blamed_by_leaf
