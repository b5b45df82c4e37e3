use Rattle.std.proofs.Common.{◌<◌, ap, ◌∙◌, arith}
use Rattle.host_types.specs.Configuration.{replicas_for}
use Rattle.ballots.proofs.Ballots.{under_first, listed_first}
use Rattle.replica_tests.proofs.votes.put.Goals as goal

pub returns-in_ok-insert-clause-under : goal.returns-in_ok-insert-clause-under
returns-in_ok-insert-clause-under c =
    under_first c.args.config.now.value c.args.votes.now c.insert.new.self c.args.message.now c.in_ok-insert.field-0 c.requires.others c.requires.own c.in_ok-insert.ensures.recorded

pub returns-in_ok-insert-clause-listed : goal.returns-in_ok-insert-clause-listed
returns-in_ok-insert-clause-listed c =
    let below : c.args.message.now.message.id < replicas_for c.args.config.now.value.f =
    omega (arith, c.if-listed.true, ap (λ p. p.1) c.signer.ensures.value, c.from.ensures, c.replica_count.ensures.value ∙ ap (λ k. replicas_for k.f) c.deref.ensures) in
    listed_first c.args.config.now.value c.args.votes.now c.insert.new.self c.args.message.now c.in_ok-insert.field-0 c.requires.listed below c.in_ok-insert.ensures.recorded
