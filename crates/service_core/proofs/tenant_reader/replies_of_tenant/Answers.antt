use Rattle.std.proofs.Common.{◌≡◌, ◌∷◌, [], ◌++◌, ◌∙◌, List, Some, None, cond, get_or, ap, sym, Bool}
use Rattle.std.proofs.lemmas.List.{take_all}
use Rattle.host_types.specs.declared.request.Reply.{Reply}
use Rattle.service_core.specs.Readings.{reply_to_tenant, replies_to_tenant}
use Rattle.service_core.proofs.Counting.{more_found, more_missed}
use Rattle.service_core.proofs.tenant_reader.replies_of_tenant.Goals as goal
use Rattle.service_core.proofs.tenant_reader.replies_of_tenant.Goals.{then-is_client_of+in_ok-copy+in_ok-push, else-is_client_of}

pub loop-reply-init : goal.loop-reply-init
loop-reply-init c = c.new-last_replies.ensures.items

pub loop-reply-preserved : goal.loop-reply-preserved
loop-reply-preserved c =
    let clients = c.args.config.now.clients in
    let tenant = c.args.tenant.0 in
    let reply = c.reply-item.result in
    elim c.if-is_client_of.branch [
      | then-is_client_of+in_ok-copy+in_ok-push w ↦
          let pushed = w.in_ok-push.ensures in
          let copied = w.in_ok-copy.ensures in
          let here : reply_to_tenant clients tenant (get_or c.args.replies.now c.loop-reply.reply-index reply) ≡ Some reply =
          ap (reply_to_tenant clients tenant) (sym c.reply-item.is) ∙ ap (λ (b : Bool). cond b (Some reply) None) (sym c.is_client_of.ensures ∙ w.if-is_client_of.true) in
          ap (λ v. v.items) w.last_replies-is ∙ pushed.items ∙ ap (λ (r : Reply). c.loop-reply.last_replies.items ++ r ∷ []) copied ∙ ap (λ (rs : List Reply). rs ++ reply ∷ []) c.loop-reply.invariant
          ∙ sym (more_found (reply_to_tenant clients tenant) c.args.replies.now c.loop-reply.reply-index reply reply c.loop-reply-test.true here)
      | else-is_client_of w ↦
          let none : reply_to_tenant clients tenant (get_or c.args.replies.now c.loop-reply.reply-index reply) ≡ None =
          ap (reply_to_tenant clients tenant) (sym c.reply-item.is) ∙ ap (λ (b : Bool). cond b (Some reply) None) (sym c.is_client_of.ensures ∙ w.if-is_client_of.false) in
          ap (λ v. v.items) w.last_replies-is ∙ c.loop-reply.invariant ∙ sym (more_missed (reply_to_tenant clients tenant) c.args.replies.now c.loop-reply.reply-index reply c.loop-reply-test.true none)
    ]

pub returns : goal.returns
returns c = c.loop-reply.invariant ∙ ap (replies_to_tenant c.args.config.now.clients c.args.tenant.0) (take_all c.loop-reply.reply-index c.args.replies.now c.loop-reply-test.false)
