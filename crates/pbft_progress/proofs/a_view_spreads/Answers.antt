-- As `proofs/Views.antt` has it.
use Rattle.pbft_progress.proofs.Views.{spreads}
use Rattle.pbft_progress.proofs.a_view_spreads.Goals as goal

pub returns : goal.returns
returns k = spreads
