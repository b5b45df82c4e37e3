-- Statement: the service: what taking a request, or the null request, gives.
use Rattle.std.specs.Prelude.{◌≡◌, ℕ, ◌+◌, Bool, true, false, ◌==◌, nat_lt, List, [], ◌∷◌, Option, Some, None, MatchBool, MatchOption}
use Rattle.std.specs.FinMap as finite
use Rattle.host_types.specs.declared.request.Request.{Request}
use Rattle.host_types.specs.declared.request.Reply.{Reply}
use Rattle.host_types.specs.Configuration.{Configuration}
use Rattle.tenant_maps.specs.Entries.{Entries}
use Rattle.service_model.specs.declared.outcome.Outcome.{Outcome}
use Rattle.service_model.specs.Operations.{operation_of, Does}
use Rattle.service_model.specs.TenantStates.{Procedure, TenantState, Service, genesis_of, tenant_of, with_tenant}

-- the reply to a request that was done as this number
abbrev pub reply_to : Request → ℕ → List ℕ → Reply
reply_to request number result =
    record { client = request.client; time = request.time; number = record { 0 = number }; result = result }

-- The operation of the request is done, and its reply is the last one to its client from then on.
pub record Executes (number : ℕ) (part : TenantState) (request : Request) (after : TenantState) (reply : Option Reply) (kept : Bool) : Type 0 where
  pub procedures : List Procedure
  pub entries : Entries
  pub result : List ℕ
  pub does : Does request.client.0 (operation_of request.op) part.procedures part.entries procedures entries result
  pub part_is : after ≡ record { tenant = part.tenant; procedures = procedures; entries = entries; last_replies = finite.insert part.last_replies request.client.0 (reply_to request number result) }
  pub reply_is : reply ≡ Some (reply_to request number result)
  pub is_new : kept ≡ false

-- What a request, taken as this number, does to its tenant's part, and what is answered. A time below the client's
-- last gives no reply; that time again gives the last reply as it is; else the operation is done.
abbrev pub IsTenantStep : ℕ → TenantState → Request → TenantState → Option Reply → Bool → Type 0
IsTenantStep number part request after reply kept =
    MatchOption (finite.get part.last_replies request.client.0)
    (Executes number part request after reply kept)
    (λ last. MatchBool (nat_lt request.time last.time)
    ((after ≡ part) × (reply ≡ None) × (kept ≡ false))
    (MatchBool (request.time == last.time)
    ((after ≡ part) × (reply ≡ Some last) × (kept ≡ true))
    (Executes number part request after reply kept)))

-- A request changes the number and the part of its client's tenant alone, and what comes of it follows from the
-- number and that part.
pub record TakesRequest (state : Service) (request : Request) (after : Service) (outcome : Outcome) : Type 0 where
  pub part : TenantState
  pub is_part : tenant_of state request.client.0 ≡ Some part
  pub changed : TenantState
  pub step : IsTenantStep (state.number + 1) part request changed outcome.reply outcome.kept
  pub state_is : after ≡ record { config = state.config; number = state.number + 1; tenants = with_tenant changed state.tenants }
  pub number_is : outcome.number.0 ≡ state.number + 1

-- One step of the service. The null request raises the number and does nothing else.
abbrev pub IsStep : Service → Option Request → Service → Outcome → Type 0
IsStep state None after outcome =
    (after ≡ record { config = state.config; number = state.number + 1; tenants = state.tenants })
    × (outcome ≡ record { number = record { 0 = state.number + 1 }; reply = None; kept = false })
IsStep state (Some request) after outcome = TakesRequest state request after outcome

-- The steps of a list of requests, one after another.
abbrev pub Follows : Service → List (Option Request) → Service → List Outcome → Type 0
Follows state [] after outcomes = (after ≡ state) × (outcomes ≡ [])
Follows state (request ∷ requests) after outcomes =
    (mid : Service) × (outcome : Outcome) × (others : List Outcome)
    × IsStep state request mid outcome × Follows mid requests after others × (outcomes ≡ outcome ∷ others)

-- The service on a list of requests from the beginning.
abbrev pub Serves : Configuration → List (Option Request) → Service → List Outcome → Type 0
Serves config requests after outcomes = Follows (genesis_of config) requests after outcomes
