use Rattle.std.proofs.Common.{◌≡◌, ◌+◌, ◌∙◌, rules}
use Rattle.client_session.proofs.Hearing.{heard_same}
use Rattle.host_client.proofs.CallLaws.{called_time}
use Rattle.host_client.proofs.calling.call_or_stuck.Goals as goal

pub returns-clause-config : goal.returns-clause-config
returns-clause-config g c = (heard_same c.wait_while.ensures.heard).0 ∙ c.ask.ensures.config

pub returns-clause-time : goal.returns-clause-time
returns-clause-time g c =
    let next : c.ask.new.session.time ≡ c.args.session.now.time + 1 = search rules in
    called_time c.wait_while.result c.wait_while.new.session (c.args.session.now.time + 1) c.wait_while.ensures.accepted
    ((heard_same c.wait_while.ensures.heard).2 ∙ next)
