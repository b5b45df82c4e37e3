-- As `Named.antt` has it.
use Rattle.journal_laws.proofs.Named.{views_differ}
use Rattle.journal_laws.proofs.claims_of_a_view_that_contradict_differ.Goals as goal

pub returns : goal.returns
returns c = views_differ
