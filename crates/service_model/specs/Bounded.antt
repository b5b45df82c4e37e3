-- Statement: the bounds that every state keeps that the service reaches. With them a state's bytes determine the state.
use Rattle.std.specs.Prelude.{◌≡◌, ℕ, ◌<◌, ◌≤◌, ◌^◌, length, map, All, IfSome}
use Rattle.std.specs.FinMap as finite
use Rattle.host_types.specs.declared.request.Reply.{Reply}
use Rattle.host_types.specs.Configuration.{IsConfiguration, tenants_of}
use Rattle.tenant_maps.specs.Entries.{Entries}
use Rattle.service_model.specs.TenantStates.{TenantState, Service}

-- A map of at most 4,096 entries, from keys of 16 bytes to values of 32.
pub record IsSizedMap (entries : Entries) : Type 0 where
  pub keys : All (λ key. length key ≡ 16) (finite.keys entries)
  pub values : All (λ value. length value ≡ 32) (finite.values entries)
  pub count : finite.len entries ≤ 4096

-- The last reply to a client, in a state that has taken so many requests.
pub record IsBoundedReply (taken client : ℕ) (reply : Reply) : Type 0 where
  pub own : reply.client.0 ≡ client
  pub client_in_range : client < 2 ^ 32
  pub time_in_range : reply.time < 2 ^ 64
  pub not_null : 1 ≤ reply.number.0
  pub not_later : reply.number.0 ≤ taken
  pub result_in_range : length reply.result ≤ 265

-- A tenant's part: at most 64 procedures of at most 1,024 slots, a tenant's map, and last replies within their bounds.
pub record IsBoundedTenant (taken : ℕ) (tenant : TenantState) : Type 0 where
  pub procedures_in_range : length tenant.procedures ≤ 64
  pub codes_in_range : All (λ procedure. length procedure.code ≤ 8192) tenant.procedures
  pub entries_in_range : IsSizedMap tenant.entries
  pub replies_in_range : (client : ℕ) → IfSome (finite.get tenant.last_replies client) (IsBoundedReply taken client)

-- A state under a configuration, which has just the configuration's tenants.
pub record IsBounded (state : Service) : Type 0 where
  pub is_configuration : IsConfiguration state.config
  pub number_in_range : state.number < 2 ^ 48
  pub same_tenants : map (λ tenant. tenant.tenant) state.tenants ≡ map (λ tenant. tenant.0) (tenants_of state.config.clients)
  pub tenants_in_range : All (IsBoundedTenant state.number) state.tenants
