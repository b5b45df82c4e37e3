use Rattle.std.proofs.Common.{sym, ap, ◌∙◌}
use Rattle.host_types.specs.Configuration.{entry_of}
use Rattle.std.specs.Arc.{arc_value}
use Rattle.service_model.specs.TenantStates.{Service, last_reply_of, client_index}
use Rattle.service_model.proofs.TenantIndexes.{last_reply_at, no_last_reply}
use Rattle.service_core.proofs.state.State.last_reply.Goals as goal

pub returns-in-Some-clause-value : goal.returns-in-Some-clause-value
returns-in-Some-clause-value c =
    c.last_reply.ensures.value
    ∙ sym (last_reply_at c.self.inside.tenants.items (entry_of (arc_value c.self.inside.config).clients c.args.client.0) c.in-Some.index c.args.client.0 c.index.result.now
    (ap (λ (s : Service). client_index s c.args.client.0) c.self.view_is ∙ sym c.in-Some.ensures) c.index.ensures)
    ∙ ap (λ (s : Service). last_reply_of s c.args.client.0) c.self.view_is

pub returns-in-None-clause-value : goal.returns-in-None-clause-value
returns-in-None-clause-value c =
    sym (no_last_reply c.self.inside.tenants.items (entry_of (arc_value c.self.inside.config).clients c.args.client.0) c.args.client.0
    (ap (λ (s : Service). client_index s c.args.client.0) c.self.view_is ∙ sym c.in-None.ensures))
    ∙ ap (λ (s : Service). last_reply_of s c.args.client.0) c.self.view_is
