use Rattle.std.proofs.Common.{sym, ap, ◌∙◌, refl, find, Some, None, true, false}
use Rattle.std.specs.Option.{option_copied}
use Rattle.std.specs.FinMap as finite
use Rattle.std.proofs.lemmas.Result.{IfOk-weaker}
use Rattle.service_model.specs.TenantStates.{TenantState}
use Rattle.tenant_parts.proofs.LastReplies.{to, get-replies_of}
use Rattle.tenant_parts.proofs.TenantSteps.{step_first, step_older, step_again, step_later}
use Rattle.tenant_parts.proofs.tenant_part.TenantPart.apply_at.Goals as goal

pub returns-then-request-last-clause-step : goal.returns-then-request-last-clause-step
returns-then-request-last-clause-step c =
    let found = c.find_reply.ensures ∙ ap (find (to c.args.request.now.client.0)) c.deref.ensures.value
    ∙ sym (get-replies_of c.self.inside.last_replies.items c.args.request.now.client.0) ∙ ap (λ (p : TenantState). finite.get p.last_replies c.args.request.now.client.0) c.self.view_is in (
      step_older c.args.number.0 c.args.self.now c.args.request.now c.args.self.now None false c.in-Some.last.now (sym found ∙ ap option_copied c.in-Some.is) c.if-request-last.true refl refl refl,
      refl,
    )

pub returns-then-request-last-2-clause-step : goal.returns-then-request-last-2-clause-step
returns-then-request-last-2-clause-step c =
    let found = c.find_reply.ensures ∙ ap (find (to c.args.request.now.client.0)) c.deref.ensures.value
    ∙ sym (get-replies_of c.self.inside.last_replies.items c.args.request.now.client.0) ∙ ap (λ (p : TenantState). finite.get p.last_replies c.args.request.now.client.0) c.self.view_is in (
      step_again c.args.number.0 c.args.self.now c.args.request.now c.args.self.now (Some c.in_ok-reply.reply) true c.in-Some.last.now (sym found ∙ ap option_copied c.in-Some.is) c.if-request-last-2.true refl (ap Some c.in_ok-reply.ensures) refl,
      refl,
    )

pub returns-in_default-clause-step : goal.returns-in_default-clause-step
returns-in_default-clause-step c =
    let found = c.find_reply.ensures ∙ ap (find (to c.args.request.now.client.0)) c.deref.ensures.value
    ∙ sym (get-replies_of c.self.inside.last_replies.items c.args.request.now.client.0) ∙ ap (λ (p : TenantState). finite.get p.last_replies c.args.request.now.client.0) c.self.view_is in
    IfOk-weaker c.execute.result _ _ (λ outcome e.
    (step_first c.args.number.0 c.args.self.now c.args.request.now c.execute.new.self outcome.reply outcome.kept (sym found ∙ ap option_copied c.in_default.is) e.0, e.1)) c.execute.ensures.executes

pub returns-clause-step : goal.returns-clause-step
returns-clause-step c =
    let found = c.find_reply.ensures ∙ ap (find (to c.args.request.now.client.0)) c.deref.ensures.value
    ∙ sym (get-replies_of c.self.inside.last_replies.items c.args.request.now.client.0) ∙ ap (λ (p : TenantState). finite.get p.last_replies c.args.request.now.client.0) c.self.view_is in
    IfOk-weaker c.execute-2.result _ _ (λ outcome e. (
      step_later c.args.number.0 c.args.self.now c.args.request.now c.execute-2.new.self outcome.reply outcome.kept c.in-Some.last.now (sym found ∙ ap option_copied c.in-Some.is) c.if-request-last.false c.if-request-last-2.false e.0,
      e.1,
    )) c.execute-2.ensures.executes
