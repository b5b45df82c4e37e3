use Rattle.std.proofs.Common.{◌≤◌, sym, ap, ◌∙◌, subst, find, length, Option, List}
use Rattle.std.specs.Prelude.{IfSome, All}
use Rattle.std.specs.FinMap as finite
use Rattle.host_types.specs.declared.request.Reply.{Reply}
use Rattle.service_model.specs.TenantStates.{TenantState}
use Rattle.tenant_parts.proofs.LastReplies.{to, get-replies_of, found_short}
use Rattle.tenant_parts.proofs.tenant_part.TenantPart.last_reply.Goals as goal

pub returns-clause-value : goal.returns-clause-value
returns-clause-value c =
    c.find_reply.ensures ∙ ap (find (to c.args.client.0)) c.deref.ensures.value
    ∙ sym (get-replies_of c.self.inside.last_replies.items c.args.client.0) ∙ ap (λ (p : TenantState). finite.get p.last_replies c.args.client.0) c.self.view_is

pub returns-clause-short : goal.returns-clause-short
returns-clause-short c =
    let P : Reply → Type 0 = λ reply. length reply.result ≤ 265 in
    subst (λ (o : Option Reply). IfSome o P) (sym c.find_reply.ensures)
    (found_short P (to c.args.client.0) c.deref.result.now (subst (λ (replies : List Reply). All P replies) (sym c.deref.ensures.value) c.self.invariant.1))
