use Rattle.std.proofs.Common.{◌∙◌, ap, map, take}
use Rattle.host_types.specs.declared.TenantId.{TenantId}
use Rattle.host_types.specs.Configuration.{Configuration, tenants_of}
use Rattle.std.proofs.lemmas.List.{take_all}
use Rattle.service_model.specs.TenantStates.{TenantState}
use Rattle.service_model.proofs.TenantIndexes.{empty_tenants}
use Rattle.service_core.proofs.state.State.genesis.Goals as goal

pub invariant_of-result : goal.invariant_of-result
invariant_of-result c =
    ap (map (λ (p : TenantState). p.tenant)) c.loop-tenant.invariant ∙ empty_tenants (take c.loop-tenant.tenant-index c.as_slice-ids.result.now)
    ∙ ap (map (λ (t : TenantId). t.0)) (take_all c.loop-tenant.tenant-index c.as_slice-ids.result.now c.loop-tenant-test.false ∙ c.as_slice-ids.ensures.value ∙ c.tenant_ids-all.ensures.value
    ∙ ap (λ (k : Configuration). tenants_of k.clients) c.deref.ensures)
