-- Internal: what lanes make of requests, and how their slots are put together.
use Rattle.std.specs.Prelude.{◌≡◌, ℕ, ◌+◌, ◌<◌, ◌⊎◌, List, [], ◌∷◌, if◌then◌else◌, length, map, set, fold, take, slice_index_or, Option, Some, None, Result, IfOk, MatchOption, All, IfSome}
use Rattle.std.specs.List.{range_with_len}
use Rattle.host_types.specs.declared.request.Request.{Request}
use Rattle.service_model.specs.declared.outcome.Outcome.{Outcome}
use Rattle.service_model.specs.TenantStates.{TenantState}
use Rattle.service_model.specs.Steps.{IsTenantStep}
use Rattle.std.specs.declared.alloc.AllocError.{AllocError}
use Rattle.tenant_lanes.specs.declared.lane.Done.{Done}
use Rattle.tenant_lanes.specs.declared.lane.Lane.{Lane}
use Rattle.tenant_lanes.specs.Dealing.{is_at}

-- a part for each tenant whose part is there
abbrev pub Slots : Type 0
Slots = List (Option TenantState)

-- A request of the tenant in this slot, taken as this number.
pub record TakesInSlot (number : ℕ) (slots : Slots) (index : ℕ) (part : TenantState) (request : Request) (after : Slots) (outcome : Option Outcome) : Type 0 where
  pub changed : TenantState
  pub answer : Outcome
  pub step : IsTenantStep number part request changed answer.reply answer.kept
  pub number_is : answer.number.0 ≡ number
  pub after_is : after ≡ set slots index (Some changed)
  pub outcome_is : outcome ≡ Some answer

abbrev pub PassesBy : Slots → Slots → Option Outcome → Type 0
PassesBy slots after outcome = (after ≡ slots) × (outcome ≡ None)

-- A lane takes a request of a tenant whose part it has, and passes by all others and null requests.
abbrev pub LaneStep : ℕ → Slots → Option ℕ → Option Request → Slots → Option Outcome → Type 0
LaneStep number slots None request after outcome = PassesBy slots after outcome
LaneStep number slots (Some index) None after outcome = PassesBy slots after outcome
LaneStep number slots (Some index) (Some request) after outcome =
    MatchOption (slice_index_or slots index None) (PassesBy slots after outcome) (λ part. TakesInSlot number slots index part request after outcome)

-- It goes through the requests behind this number, each with its tenant's index.
abbrev pub LaneRuns : ℕ → Slots → List (Option ℕ) → List (Option Request) → Slots → List (Option Outcome) → Type 0
LaneRuns number slots [] requests after outcomes = (after ≡ slots) × (outcomes ≡ [])
LaneRuns number slots (place ∷ places) [] after outcomes = (after ≡ slots) × (outcomes ≡ [])
LaneRuns number slots (place ∷ places) (request ∷ requests) after outcomes =
    (mid : Slots) × (outcome : Option Outcome) × (others : List (Option Outcome))
    × LaneStep (number + 1) slots place request mid outcome × LaneRuns (number + 1) mid places requests after others × (outcomes ≡ outcome ∷ others)

-- Each lane has gone through the requests, unless memory ran out for it.
abbrev pub HaveRun : ℕ → List (Option ℕ) → List (Option Request) → List Lane → List (Result Done AllocError) → Type 0
HaveRun number places requests lanes all =
    (k : ℕ) (d : Result Done AllocError) (e : Lane) → k < length lanes
    → IfOk (slice_index_or all k d) (λ done. LaneRuns number (slice_index_or lanes k e).slots.items places requests done.slots.items done.outcomes.items)

-- the first, or where there is none the second
abbrev pub or_other : {X : Type 0} → Option X → Option X → Option X
or_other None other = other
or_other (Some x) other = Some x

-- slots with what others have put in
abbrev pub filled : {X : Type 0} → List (Option X) → List (Option X) → List (Option X)
filled [] slots = slots
filled (x ∷ xs) [] = []
filled (x ∷ xs) (slot ∷ slots) = or_other x slot ∷ filled xs slots

-- what all lanes have, put in
abbrev pub filled_by : List Lane → Slots → Slots
filled_by lanes slots = fold (λ all lane. filled lane.slots.items all) slots lanes

-- No slot is taken in both.
pub record IsApart (slots others : Slots) : Type 0 where
  pub same_length : length slots ≡ length others
  pub apart : (index : ℕ) → (slice_index_or slots index None ≡ None) ⊎ (slice_index_or others index None ≡ None)

-- Each lane is apart from the slots with those before it put in.
abbrev pub AreApart : Slots → List Lane → Type 0
AreApart slots lanes = (k : ℕ) (d : Lane) → k < length lanes → IsApart (slice_index_or lanes k d).slots.items (filled_by (take k lanes) slots)

-- No request is for a tenant in these slots.
abbrev pub NoneAsked : Slots → List (Option ℕ) → Type 0
NoneAsked slots places = All (λ place. IfSome place (λ index. slice_index_or slots index None ≡ None)) places

-- the slots of a lane's tenants, taken out of these, and what is left of them
abbrev pub picked : ℕ → List (Option ℕ) → Slots → Slots
picked lane lanes slots =
    map (λ index. if is_at lane (slice_index_or lanes index None) then slice_index_or slots index None else None) (range_with_len 0 (length slots))

abbrev pub left : ℕ → List (Option ℕ) → Slots → Slots
left lane lanes slots =
    map (λ index. if is_at lane (slice_index_or lanes index None) then None else slice_index_or slots index None) (range_with_len 0 (length slots))
