-- As `Viewed.antt` has it.
use Rattle.journal_laws.proofs.Viewed.{not_two, not_hidden, not_invalid}
use Rattle.journal_laws.proofs.who_changes_views_wrongly_is_faulty.Goals as goal

pub returns-clause-two : goal.returns-clause-two
returns-clause-two c = λ setup journals real id blamed correct. not_two setup journals real id correct blamed

pub returns-clause-hidden : goal.returns-clause-hidden
returns-clause-hidden c = λ setup journals real id blamed correct. not_hidden setup journals real id correct blamed

pub returns-clause-invalid : goal.returns-clause-invalid
returns-clause-invalid c = λ setup journals real id blamed correct. not_invalid setup journals real id correct blamed
