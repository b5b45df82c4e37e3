-- The honest family of journals, as `proofs/ExampleRows.antt` has it.
use Rattle.pbft_agreement.proofs.ExampleRows.{is_honest_family, one_executes, one_replies}
use Rattle.pbft_agreement.proofs.honest_journals_execute.Goals as goal

pub returns : goal.returns
returns c = record { honest = is_honest_family; executes = one_executes; replies = one_replies }
