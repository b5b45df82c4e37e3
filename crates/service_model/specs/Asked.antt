-- Statement: the requests that clients can make, and the maps of a state.
use Rattle.std.specs.Prelude.{◌<◌, ◌^◌, All, IsSome}
use Rattle.host_types.specs.declared.request.Request.{Request}
use Rattle.host_types.specs.Configuration.{Configuration, entry_of}
use Rattle.tenant_maps.specs.Entries.{IsTenantMap}
use Rattle.service_model.specs.TenantStates.{Service}

-- A request as a client of the configuration can make it: its id is listed and below 2^32, and the operation is a list of
-- bytes. Its time and the operation's length are left free.
pub record CanAsk (config : Configuration) (request : Request) : Type 0 where
  pub listed : IsSome (entry_of config.clients request.client.0)
  pub client_in_range : request.client.0 < 2 ^ 32
  pub bytes : All (λ byte. byte < 256) request.op

-- Each tenant's entries are a tenant's map: at most 4,096, from keys of 16 bytes to values of 32 bytes.
abbrev pub HasTenantMaps : Service → Type 0
HasTenantMaps state = All (λ part. IsTenantMap part.entries) state.tenants
