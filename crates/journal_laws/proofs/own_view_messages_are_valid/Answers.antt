-- As `Viewed.antt` has it.
use Rattle.journal_laws.proofs.Viewed.{valid_change, valid_opening}
use Rattle.journal_laws.proofs.own_view_messages_are_valid.Goals as goal

pub returns-clause-changes : goal.returns-clause-changes
returns-clause-changes c = valid_change

pub returns-clause-openings : goal.returns-clause-openings
returns-clause-openings c = valid_opening
