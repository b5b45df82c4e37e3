-- As `Claimed.antt` has it.
use Rattle.journal_laws.proofs.Claimed.{not_blamed}
use Rattle.journal_laws.proofs.who_contradicts_is_faulty.Goals as goal

pub returns : goal.returns
returns c = not_blamed
