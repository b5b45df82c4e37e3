use Rattle.std.proofs.Common.{sym, ap, ◌∙◌}
use Rattle.std.specs.Prelude.{position}
use Rattle.service_model.specs.TenantStates.{replies_of}
use Rattle.tenant_parts.proofs.LastReplies.{to, replies_of-set, replies_of-push}
use Rattle.tenant_parts.proofs.tenant_part.store_reply.Goals as goal

pub returns-in-Some-clause-stored : goal.returns-in-Some-clause-stored
returns-in-Some-clause-stored c =
    replies_of-set c.args.replies.now.items c.in-Some.index c.args.reply (ap (position (to c.args.reply.client.0)) (sym c.deref.ensures.value) ∙ sym c.in-Some.ensures)

pub returns-in_ok-push-in-None-clause-stored : goal.returns-in_ok-push-in-None-clause-stored
returns-in_ok-push-in-None-clause-stored c =
    ap replies_of c.in_ok-push-in-None.ensures.items
    ∙ replies_of-push c.args.replies.now.items c.args.reply (ap (position (to c.args.reply.client.0)) (sym c.deref.ensures.value) ∙ sym c.in-None.ensures)
