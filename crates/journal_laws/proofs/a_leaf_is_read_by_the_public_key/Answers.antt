-- As `Named.antt` has it.
use Rattle.journal_laws.proofs.Named.{leaf_read}
use Rattle.journal_laws.proofs.a_leaf_is_read_by_the_public_key.Goals as goal

pub returns : goal.returns
returns c = λ s text. leaf_read s.height s.bottom s.id s.secret s.next_leaf text
