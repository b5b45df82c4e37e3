-- As `proofs/Views.antt` has it.
use Rattle.pbft_progress.proofs.Views.{opens}
use Rattle.pbft_progress.proofs.a_view_with_a_correct_primary_opens.Goals as goal

pub returns : goal.returns
returns k = opens
