-- As `Viewed.antt` has it.
use Rattle.journal_laws.proofs.Viewed.{reports}
use Rattle.journal_laws.proofs.an_own_view_change_hides_no_commit.Goals as goal

pub returns : goal.returns
returns c = reports
