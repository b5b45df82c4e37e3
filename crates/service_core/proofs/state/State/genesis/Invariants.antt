use Rattle.std.proofs.Common.{◌≡◌, map, take}
use Rattle.service_model.specs.TenantStates.{empty_tenant}
use Rattle.service_core.proofs.state.State.genesis.Given as goal

abbrev pub invariant-loop-tenant : goal.invariant-loop-tenant
invariant-loop-tenant l = l.tenants.items ≡ map (λ tenant. empty_tenant tenant.0) (take l.tenant-index l.ids)
