use Rattle.std.proofs.Common.{rules, subst}
use Rattle.pbft_codec.specs.declared.body.Body.TheVariants as bodies
use Rattle.pbft_model.specs.Acts.{All}
use Rattle.pbft_model.specs.Words.{View}
use Rattle.replica_stores.proofs.Sealing.{prepare_is_sealable}
use Rattle.replica_core.specs.Doing.{Says}
use Rattle.replica_core.proofs.Admitting.{on_ok}
use Rattle.replica_core.proofs.Said.{says_prepare}
use Rattle.replica_core.proofs.kept.Core.send_prepare.Goals as goal

pub send-requires-clause-sealable : goal.send-requires-clause-sealable
send-requires-clause-sealable c = prepare_is_sealable _ _ c.requires.number (search rules)

pub returns-clause-sent : goal.returns-clause-sent
returns-clause-sent c = on_ok c.note_prepare.result (λ noted.
    subst (λ (v : View). Says c.args.self.now All (bodies.Prepare (record { view = v; number = c.args.number; digest = c.args.digest })) c.note_prepare.new.self) (λ i. record { 0 = c.view-view.ensures i })
    (says_prepare c.args.self.now c.send.new.self c.record_vote.new.self c.note_prepare.new.self All c.in_ok-message.message (record { view = c.view-view.result; number = c.args.number; digest = c.args.digest })
    c.in_ok-message.ensures.after c.in_ok-message.ensures.signed c.in_ok-record_vote.ensures.recorded noted)) c.note_prepare.ensures.noted
