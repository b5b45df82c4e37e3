-- Statement: which lane takes the requests of which tenant.
use Rattle.std.specs.Prelude.{ℕ, zero, suc, ◌+◌, ◌%◌, ◌==◌, Bool, false, if◌then◌else◌, List, length, map, min, slice_get, Option, Some, None}
use Rattle.std.specs.List.{list_any, range_with_len}
use Rattle.std.specs.Option.{option_and_then}
use Rattle.host_types.specs.declared.request.Request.{Request}
use Rattle.service_model.specs.TenantStates.{TenantState, Service, client_index}

-- where the part of the request's tenant stands among the state's parts; the null request has no tenant
abbrev pub place_of : Service → Option Request → Option ℕ
place_of state request = option_and_then (λ r. client_index state r.client.0) request

abbrev pub is_at : ℕ → Option ℕ → Bool
is_at index None = false
is_at index (Some place) = place == index

-- some request is for the tenant at this index
abbrev pub has_requests : List (Option ℕ) → ℕ → Bool
has_requests places index = list_any (is_at index) places

-- how many of the tenants before this index have requests
abbrev pub turns : List (Option ℕ) → ℕ → ℕ
turns places zero = 0
turns places (suc index) = turns places index + (if has_requests places index then 1 else 0)

-- Tenants with requests go to lanes 0, 1, .. in turn, by id ascending, as the parts stand; the others go to none.
abbrev pub lane_of : ℕ → List (Option ℕ) → ℕ → Option ℕ
lane_of workers places index = if has_requests places index then Some (turns places index % workers) else None

-- There are as many lanes as tenants with requests, at most one for each worker.
abbrev pub lane_count : ℕ → List (Option ℕ) → ℕ → ℕ
lane_count workers places tenants = min workers (turns places tenants)

-- a slot for each tenant, with the parts of those that pass
abbrev pub slots_where : (ℕ → Bool) → List TenantState → List (Option TenantState)
slots_where test parts = map (λ index. if test index then slice_get parts index else None) (range_with_len 0 (length parts))
