-- As `proofs/Resting.antt` has it.
use Rattle.pbft_progress.proofs.Resting.{journal_rests, each_rests}
use Rattle.pbft_progress.proofs.nothing_is_due_at_the_end.Goals as goal

pub returns : goal.returns
returns k = record { journal = journal_rests; family = each_rests }
