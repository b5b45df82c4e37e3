-- Statement: what each lane is dealt.
use Rattle.std.specs.Prelude.{◌≡◌, ℕ, ◌<◌, List, length, slice_index_or, Option, is_none}
use Rattle.service_model.specs.TenantStates.{TenantState}
use Rattle.tenant_lanes.specs.declared.lane.Lane.{Lane}
use Rattle.tenant_lanes.specs.Dealing.{is_at, lane_of, lane_count, slots_where}

-- Each lane has its number, and a slot for each tenant with the part of those that are its own. The parts of tenants
-- without requests are in no lane.
pub record IsDealt (workers : ℕ) (places : List (Option ℕ)) (parts : List TenantState) (lanes : List Lane) (others : List (Option TenantState)) : Type 0 where
  pub count : length lanes ≡ lane_count workers places (length parts)
  pub numbers : (k : ℕ) (d : Lane) → k < length lanes → (slice_index_or lanes k d).number ≡ k
  pub slots : (k : ℕ) (d : Lane) → k < length lanes → (slice_index_or lanes k d).slots.items ≡ slots_where (λ index. is_at k (lane_of workers places index)) parts
  pub stays : others ≡ slots_where (λ index. is_none (lane_of workers places index)) parts
