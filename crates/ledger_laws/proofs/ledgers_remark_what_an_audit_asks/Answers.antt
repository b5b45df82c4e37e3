use Rattle.driver_notes.specs.Accounts.{none_noted}
use Rattle.ledger_laws.proofs.Agreeing.{agreed_so, all_follow_so, remarked_so}
use Rattle.ledger_laws.proofs.ledgers_remark_what_an_audit_asks.Goals as goal

pub returns-clause-agree : goal.returns-clause-agree
returns-clause-agree c = λ window records remarks are. (remarked_so window records remarks are, agreed_so window records remarks are)

pub returns-clause-rise : goal.returns-clause-rise
returns-clause-rise c = λ window records remarks are. all_follow_so window (λ n. none_noted) records remarks are
