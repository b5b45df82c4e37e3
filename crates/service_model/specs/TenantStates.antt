-- Statement: the state of the service: a number, and each tenant's part.
use Rattle.std.specs.Prelude.{ℕ, ◌==◌, if◌then◌else◌, List, [], ◌∷◌, map, find, position, Option, option_and_then}
use Rattle.std.specs.Ordering.{nat_cmp}
use Rattle.std.specs.FinMap as finite
use Rattle.host_types.specs.declared.request.Reply.{Reply}
use Rattle.host_types.specs.Configuration.{Configuration, tenants_of, entry_of}
use Rattle.bpf_model.specs.declared.profile.Profile.{Profile}
use Rattle.tenant_maps.specs.Entries.{Entries}

-- the last reply to each client that has one, by the client's id
abbrev pub Replies : Type 0
Replies = finite.FinMap nat_cmp Reply

abbrev pub replies_of : List Reply → Replies
replies_of [] = finite.empty
replies_of (reply ∷ replies) = finite.insert (replies_of replies) reply.client.0 reply

-- A procedure: the profile under which the verifier accepted it, and its code.
pub record Procedure : Type 0 where
  pub profile : Profile
  pub code : List ℕ

-- A tenant's part: its procedures by id, its map, and its clients' last replies.
pub record TenantState : Type 0 where
  pub tenant : ℕ
  pub procedures : List Procedure
  pub entries : Entries
  pub last_replies : Replies

-- The state under a configuration: how many requests were taken, and the tenants' parts.
pub record Service : Type 0 where
  pub config : Configuration
  pub number : ℕ
  pub tenants : List TenantState

-- a tenant's part that has nothing
abbrev pub empty_tenant : ℕ → TenantState
empty_tenant tenant = record { tenant = tenant; procedures = []; entries = finite.empty; last_replies = finite.empty }

-- the state before the first request: each tenant of the configuration has nothing
abbrev pub genesis_of : Configuration → Service
genesis_of config =
    record { config = config; number = 0; tenants = map (λ tenant. empty_tenant tenant.0) (tenants_of config.clients) }

-- the part of this tenant
abbrev pub tenant_at : List TenantState → ℕ → Option TenantState
tenant_at parts tenant = find (λ part. part.tenant == tenant) parts

-- its index
abbrev pub tenant_index : List TenantState → ℕ → Option ℕ
tenant_index parts tenant = position (λ part. part.tenant == tenant) parts

-- the parts with that tenant's part changed, and all others as they were
abbrev pub with_tenant : TenantState → List TenantState → List TenantState
with_tenant changed [] = []
with_tenant changed (part ∷ parts) =
    if part.tenant == changed.tenant then changed ∷ parts else part ∷ with_tenant changed parts

-- the part of the tenant that the client belongs to
abbrev pub tenant_of : Service → ℕ → Option TenantState
tenant_of state client = option_and_then (λ entry. tenant_at state.tenants entry.tenant.0) (entry_of state.config.clients client)

-- its index
abbrev pub client_index : Service → ℕ → Option ℕ
client_index state client = option_and_then (λ entry. tenant_index state.tenants entry.tenant.0) (entry_of state.config.clients client)

-- the last reply to the client
abbrev pub last_reply_of : Service → ℕ → Option Reply
last_reply_of state client = option_and_then (λ part. finite.get part.last_replies client) (tenant_of state client)
