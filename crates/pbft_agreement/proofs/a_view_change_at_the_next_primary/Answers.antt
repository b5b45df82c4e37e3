-- As `proofs/Working.antt` has it.
use Rattle.pbft_agreement.proofs.Working.{view_changes}
use Rattle.pbft_agreement.proofs.a_view_change_at_the_next_primary.Goals as goal

pub returns : goal.returns
returns c id secret = view_changes id secret
