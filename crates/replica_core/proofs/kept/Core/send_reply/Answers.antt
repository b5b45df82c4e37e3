use Rattle.std.proofs.Common.{ℕ, sym, ap, ◌∙◌}
use Rattle.pbft_model.specs.Duties.{reply_body}
use Rattle.replica_core.specs.Replicas.{KeptReplica}
use Rattle.replica_core.proofs.Acting.{replies, owed_number, owed_short, reply_fits}
use Rattle.replica_core.proofs.kept.Core.send_reply.Goals as goal

pub send-requires-clause-sealable : goal.send-requires-clause-sealable
send-requires-clause-sealable c =
    reply_fits c.args.self.now.config c.view.result.0 c.in-Some.reply c.in_ok-body.body c.in_ok-body.ensures.body
    (owed_number c.self.inside.step.owed.reply c.in-Some.reply c.in-Some.is c.self.invariant.owed) (owed_short c.self.inside.step.owed.reply c.in-Some.reply c.in-Some.is c.self.invariant.owed)

pub returns-clause-sent : goal.returns-clause-sent
returns-clause-sent c =
    replies c.args.self.now c.send.new.self c.note_reply.new.self c.in-Some.reply c.in_ok-body.body
    (sym (ap (λ (k : KeptReplica). k.core.reply_due) c.self.view_is) ∙ c.in-Some.is)
    (c.in_ok-body.ensures.body ∙ ap (λ (v : ℕ). reply_body v c.in-Some.reply) c.view.ensures) c.in_ok-need_leaves.ensures.enough c.in_ok-send.ensures.after c.note_reply.ensures
