use Rattle.std.proofs.Common.{refl, subst, ap, ◌∙◌, Some, false}
use Rattle.service_model.specs.TenantStates.{TenantState, replies_of}
use Rattle.service_model.specs.Operations.{operation_of}
use Rattle.tenant_parts.specs.ReadOperations.{meaning_of}
use Rattle.service_model.specs.Steps.{Executes}
use Rattle.tenant_parts.proofs.Doing.{procedures_of}
use Rattle.tenant_parts.proofs.TenantSteps.{executed}
use Rattle.tenant_parts.proofs.tenant_part.TenantPart.execute.Goals as goal

pub returns-clause-executes : goal.returns-clause-executes
returns-clause-executes c =
    let after : TenantState = record {
      tenant = c.self.inside.tenant.0;
      procedures = procedures_of c.perform.new.procedures.items;
      entries = c.perform.new.entries.entries;
      last_replies = replies_of c.store_reply.new.replies.items;
    } in (
      subst (λ (p : TenantState). Executes c.args.number.0 p c.args.request.now after (Some c.in_ok-copy.copy) false) c.self.view_is
          (executed c.args.number.0 c.self.inside.tenant.0 (procedures_of c.self.inside.procedures.items) (procedures_of c.perform.new.procedures.items) c.self.inside.entries.entries c.perform.new.entries.entries (replies_of c.self.inside.last_replies.items) (replies_of c.store_reply.new.replies.items) c.args.request.now (meaning_of c.read.result) c.in_ok-result.result.items c.from_vec.result c.in_ok-copy.copy
          (c.read.ensures ∙ ap operation_of c.as_slice.ensures) c.from_vec.ensures c.in_ok-result.ensures.does c.in_ok-store_reply.ensures.stored c.in_ok-copy.ensures),
      refl,
    )
