use Rattle.byz_world.proofs.JournalLaws.{family_reports}
use Rattle.byz_world.proofs.laws.an_honest_family_reports.Goals as goal

pub returns : goal.returns
returns c = family_reports
