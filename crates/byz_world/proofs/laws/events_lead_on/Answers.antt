use Rattle.std.proofs.Common.{Err}
use Rattle.byz_world.proofs.RunLaws.{gives_same, happened, leads_more, runs_lead}
use Rattle.byz_world.proofs.laws.events_lead_on.Goals as goal

pub returns-clause-event : goal.returns-clause-event
returns-clause-event c = λ w u t events event answer leads remembers happens. leads_more w events event u t answer leads (happened u event answer t remembers happens)

pub returns-clause-refused : goal.returns-clause-refused
returns-clause-refused c = λ u t event fault remembers happens. gives_same u event fault t (happened u event (Err fault) t (λ is. remembers cc) happens)

pub returns-clause-run : goal.returns-clause-run
returns-clause-run c = λ w t events runs. runs_lead w events t runs
