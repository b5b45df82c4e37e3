use Rattle.std.proofs.Common.{◌∙◌}
use Rattle.driver_notes.specs.Accounts.{none_noted}
use Rattle.ledger_laws.proofs.Agreeing.{agreed_so, all_follow_so}
use Rattle.ledger_laws.proofs.Telling.{told_agree, told_rise}
use Rattle.ledger_laws.proofs.nothing_is_remarked_of_correct_replicas.Goals as goal

pub returns-clause-agree : goal.returns-clause-agree
returns-clause-agree c = λ setup j records honest told. told_agree setup j honest records told

pub returns-clause-rise : goal.returns-clause-rise
returns-clause-rise c = λ setup j records honest told. told_rise setup j honest records told

pub returns-clause-unremarked : goal.returns-clause-unremarked
returns-clause-unremarked c = λ setup j window records remarks honest told are. (
  agreed_so window records remarks are (told_agree setup j honest records told),
  all_follow_so window (λ n. none_noted) records remarks are ∙ told_rise setup j honest records told,
)
