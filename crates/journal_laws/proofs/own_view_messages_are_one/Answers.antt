-- As `Viewed.antt` has it.
use Rattle.journal_laws.proofs.Viewed.{one_change, one_opening}
use Rattle.journal_laws.proofs.own_view_messages_are_one.Goals as goal

pub returns-clause-changes : goal.returns-clause-changes
returns-clause-changes c = one_change

pub returns-clause-openings : goal.returns-clause-openings
returns-clause-openings c = one_opening
