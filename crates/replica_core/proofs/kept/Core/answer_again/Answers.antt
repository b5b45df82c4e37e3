use Rattle.std.proofs.Common.{ℕ, ap, ◌∙◌}
use Rattle.pbft_model.specs.Duties.{reply_body}
use Rattle.pbft_model.specs.Sequential.{last_reply_of}
use Rattle.replica_core.specs.Replicas.{KeptReplica}
use Rattle.replica_core.proofs.Acting.{last_number, reply_fits, says_again}
use Rattle.replica_core.proofs.kept.Core.answer_again.Goals as goal

pub send-requires-clause-sealable : goal.send-requires-clause-sealable
send-requires-clause-sealable c =
    reply_fits c.args.self.now.config c.view.result.0 c.in-Some.reply.now c.in_ok-body.body c.in_ok-body.ensures.body
    (last_number c.args.self.now.core.service c.args.client.0 c.in-Some.reply.now c.requires.sound (c.in-Some.ensures.value ∙ ap (λ (k : KeptReplica). last_reply_of k.core.service c.args.client.0) c.self.view_is))
    c.in-Some.ensures.short

pub returns-clause-sent : goal.returns-clause-sent
returns-clause-sent c =
    says_again c.args.self.now c.send.new.self c.note_reply.new.self c.args.client.0 c.in-Some.reply.now c.in_ok-body.body
    (c.in-Some.ensures.value ∙ ap (λ (k : KeptReplica). last_reply_of k.core.service c.args.client.0) c.self.view_is)
    (c.in_ok-body.ensures.body ∙ ap (λ (v : ℕ). reply_body v c.in-Some.reply.now) c.view.ensures) c.in_ok-send.ensures.after c.note_reply.ensures
