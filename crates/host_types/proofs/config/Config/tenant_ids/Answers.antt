use Rattle.std.proofs.Common.{eqb, ◌∙◌, List, ap, subst, sym}
use Rattle.std.specs.List.{list_any}
use Rattle.host_types.specs.declared.TenantId.{TenantId}
use Rattle.host_types.specs.Configuration.{Configuration, IsAscending}
use Rattle.host_types.proofs.AscendingLemmas.{tenants_ascending, tenants_by_client}
use Rattle.host_types.proofs.config.Config.tenant_ids.Goals as goal

pub returns-clause-ascending : goal.returns-clause-ascending
returns-clause-ascending c = subst IsAscending (sym c.in-Some.ensures) (tenants_ascending c.deref.result.now)

pub returns-clause-by_client : goal.returns-clause-by_client
returns-clause-by_client c =
    λ q. ap (λ (us : List TenantId). list_any (λ tenant. eqb tenant.0 q) us) c.in-Some.ensures ∙ tenants_by_client c.deref.result.now q
    ∙ ap (list_any (λ client. eqb client.tenant.0 q)) (c.deref.ensures.value ∙ ap (λ (v : Configuration). v.clients) c.self.view_is)
