-- A lane that has every tenant's part does what the service does.
use Rattle.std.proofs.Common.{◌≡◌, ℕ, suc, ◌+◌, ◌<◌, List, [], ◌∷◌, length, get_or, set, map, cond, Option, Some, None, refl, sym, ap, subst, ◌∙◌, arith, eqb}
use Rattle.std.specs.Prelude.{IfSome, IsSome, All, not, nat_lt, position}
use Rattle.std.specs.List.{position_or_len}
use Rattle.std.proofs.lemmas.List.{get_or-map, get_or_default, map-set, length-map}
use Rattle.std.proofs.lemmas.List.Elements.{All-head, All-tail}
use Rattle.std.proofs.lemmas.Option.{MatchOption-at_some}
use Rattle.host_types.specs.declared.config.ClientEntry.{ClientEntry}
use Rattle.host_types.specs.declared.request.Request.{Request}
use Rattle.host_types.specs.Configuration.{Configuration, tenants_of, entry_of}
use Rattle.service_model.specs.declared.outcome.Outcome.{Outcome}
use Rattle.service_model.specs.TenantStates.{TenantState, Service, empty_tenant, tenant_index}
use Rattle.service_model.specs.Steps.{Follows}
use Rattle.service_model.proofs.Bounds.{step_tenant}
use Rattle.service_model.proofs.Found.{tenant_at_index}
use Rattle.service_model.proofs.TenantIndexes.{index_for, listed_has_index, tenants-set}
use Rattle.service_core.proofs.Taking.{taken}
use Rattle.tenant_lanes.specs.Dealing.{place_of}
use Rattle.tenant_lanes.specs.Runs.{Slots, TakesInSlot, PassesBy, LaneStep, LaneRuns}
use Rattle.tenant_lanes.specs.Settled.{outcome_of, settled}

abbrev pub ids_of : List TenantState → List ℕ
ids_of parts = map (λ part. part.tenant) parts

abbrev pub state_of : Configuration → ℕ → List TenantState → Service
state_of config number parts = record { config = config; number = number; tenants = parts }

abbrev pub IsListed : Configuration → Option Request → Type 0
IsListed config request = IfSome request (λ taken. IsSome (entry_of config.clients taken.client.0))

-- indexes follow from the tenants' ids
by_ids : (xs : List TenantState) (tenant : ℕ) → tenant_index xs tenant ≡ position (λ id. eqb id tenant) (ids_of xs)
by_ids xs tenant = λ i. cond (nat_lt (place i) (many i)) (Some (place i)) None where
  walk : (ys : List TenantState) → position_or_len (λ (part : TenantState). eqb part.tenant tenant) ys ≡ position_or_len (λ id. eqb id tenant) (ids_of ys)
  walk [] = refl
  walk (y ∷ ys) = ap (λ (n : ℕ). cond (not (eqb y.tenant tenant)) (1 + n) 0) (walk ys)

  place : position_or_len (λ (part : TenantState). eqb part.tenant tenant) xs ≡ position_or_len (λ id. eqb id tenant) (ids_of xs)
  place = walk xs

  many : length xs ≡ length (ids_of xs)
  many = sym (length-map xs (λ (part : TenantState). part.tenant))

same_index : (xs ys : List TenantState) (tenant : ℕ) → ids_of xs ≡ ids_of ys → tenant_index xs tenant ≡ tenant_index ys tenant
same_index xs ys tenant e = by_ids xs tenant ∙ ap (position (λ id. eqb id tenant)) e ∙ sym (by_ids ys tenant)

same_place : (config : Configuration) (number number' : ℕ) (xs ys : List TenantState) → ids_of xs ≡ ids_of ys → (requests : List (Option Request))
    → map (place_of (state_of config number xs)) requests ≡ map (place_of (state_of config number' ys)) requests
same_place config number number' xs ys e [] = refl
same_place config number number' xs ys e (request ∷ requests) = λ i. one request i ∷ same_place config number number' xs ys e requests i where
  for : (entry : Option ClientEntry) → index_for xs entry ≡ index_for ys entry
  for None = refl
  for (Some entry) = same_index xs ys entry.tenant.0 e

  one : (request : Option Request) → place_of (state_of config number xs) request ≡ place_of (state_of config number' ys) request
  one None = refl
  one (Some request) = for (entry_of config.clients request.client.0)

pub index_within : (xs : List TenantState) (entry : Option ClientEntry) (i : ℕ) → index_for xs entry ≡ Some i → i < length xs
index_within xs None i e = absurd (cc)
index_within xs (Some entry) i e = (tenant_at_index xs entry.tenant.0 i (empty_tenant 0) e).0

-- the parts after the requests, and the service's steps up to there
abbrev pub Ends : Configuration → ℕ → List TenantState → List (Option Request) → Slots → List (Option Outcome) → Type 0
Ends config number xs requests after outcomes =
    (parts : List TenantState) × (after ≡ map Some parts) × (ids_of parts ≡ ids_of xs)
    × Follows (state_of config number xs) requests (state_of config (number + length requests) parts) (settled number outcomes)

module _ (config : Configuration) where
  -- the null request
  null_next : (number : ℕ) (xs : List TenantState) (requests : List (Option Request)) (mid after : Slots) (o : Option Outcome) (others outcomes : List (Option Outcome)) → PassesBy (map Some xs) mid o
      → outcomes ≡ o ∷ others → (mid ≡ map Some xs → Ends config (number + 1) xs requests after others) → Ends config number xs (None ∷ requests) after outcomes
  null_next number xs requests mid after o others outcomes step is later =
      let w = later step.0 in
      let count : (number + 1) + length requests ≡ number + suc (length requests) = omega arith in (
        w.0,
        w.1,
        w.2,
        (
          state_of config (number + 1) xs,
          outcome_of (number + 1) None,
          settled (number + 1) others,
          (refl, refl),
          subst (λ (n : ℕ). Follows (state_of config (number + 1) xs) requests (state_of config n w.0) (settled (number + 1) others)) count w.3,
          ap (settled number) (is ∙ ap (λ (x : Option Outcome). x ∷ others) step.1),
        ),
      )

  -- a request of the tenant at this index
  taken_next : (number : ℕ) (xs : List TenantState) (request : Request) (requests : List (Option Request)) (index : ℕ) (part : TenantState) (mid after : Slots) (o : Option Outcome) (others outcomes : List (Option Outcome))
      → index_for xs (entry_of config.clients request.client.0) ≡ Some index → part ≡ get_or xs index part → (h : TakesInSlot (number + 1) (map Some xs) index part request mid o)
      → outcomes ≡ o ∷ others → (mid ≡ map Some (set xs index h.changed) → ids_of (set xs index h.changed) ≡ ids_of xs → Ends config (number + 1) (set xs index h.changed) requests after others)
      → Ends config number xs (Some request ∷ requests) after outcomes
  taken_next number xs request requests index part mid after o others outcomes at_index is_part h is later =
      let own : h.changed.tenant ≡ part.tenant = step_tenant (number + 1) part request h.changed h.answer.reply h.answer.kept h.step in
      let ids : ids_of (set xs index h.changed) ≡ ids_of xs = tenants-set xs index part h.changed is_part own in
      let w = later (h.after_is ∙ sym (map-set Some xs index h.changed)) ids in
      let count : (number + 1) + length requests ≡ number + suc (length requests) = omega arith in (
        w.0,
        w.1,
        w.2 ∙ ids,
        (
          state_of config (number + 1) (set xs index h.changed),
          h.answer,
          settled (number + 1) others,
          taken config number xs request index part h.changed h.answer at_index is_part h.step own h.number_is,
          subst (λ (n : ℕ). Follows (state_of config (number + 1) (set xs index h.changed)) requests (state_of config n w.0) (settled (number + 1) others)) count w.3,
          ap (settled number) (is ∙ ap (λ (x : Option Outcome). x ∷ others) h.outcome_is),
        ),
      )

  -- a listed client's request has an index
  take_one : (number : ℕ) (xs : List TenantState) (request : Request) (requests : List (Option Request)) (mid after : Slots) (o : Option Outcome) (others outcomes : List (Option Outcome))
      → ids_of xs ≡ map (λ tenant. tenant.0) (tenants_of config.clients) → IsSome (entry_of config.clients request.client.0)
      → LaneStep (number + 1) (map Some xs) (index_for xs (entry_of config.clients request.client.0)) (Some request) mid o
      → outcomes ≡ o ∷ others → ((ys : List TenantState) → ids_of ys ≡ ids_of xs → mid ≡ map Some ys → Ends config (number + 1) ys requests after others)
      → Ends config number xs (Some request ∷ requests) after outcomes
  take_one number xs request requests mid after o others outcomes ids listed step is later = cases (index_for xs (entry_of config.clients request.client.0)) refl step where
    cases : (place : Option ℕ) → index_for xs (entry_of config.clients request.client.0) ≡ place → LaneStep (number + 1) (map Some xs) place (Some request) mid o
        → Ends config number xs (Some request ∷ requests) after outcomes
    cases None e step = absurd (listed_has_index xs config.clients (λ client. eqb client.id.0 request.client.0) ids listed e)
    cases (Some i) e step =
        let lt : i < length xs = index_within xs (entry_of config.clients request.client.0) i e in
        let part : TenantState = get_or xs i (empty_tenant 0) in
        let here : get_or (map Some xs) i None ≡ Some part = get_or-map Some xs i (empty_tenant 0) None lt in
        let h = MatchOption-at_some (PassesBy (map Some xs) mid o) (λ p. TakesInSlot (number + 1) (map Some xs) i p request mid o) part here step in
        taken_next number xs request requests i part mid after o others outcomes e (get_or_default xs i (empty_tenant 0) part lt) h is (λ m same. later (set xs i h.changed) same m)

  run_of : (requests : List (Option Request)) (number : ℕ) (xs : List TenantState) (after : Slots) (outcomes : List (Option Outcome))
      → ids_of xs ≡ map (λ tenant. tenant.0) (tenants_of config.clients) → All (IsListed config) requests
      → LaneRuns number (map Some xs) (map (place_of (state_of config number xs)) requests) requests after outcomes → Ends config number xs requests after outcomes
  run_of [] number xs after outcomes ids listed h =
      let none : number + 0 ≡ number = omega arith in (xs, h.0, refl, (ap (λ (n : ℕ). state_of config n xs) none, ap (settled number) h.1))
  run_of (None ∷ requests) number xs after outcomes ids listed (mid, o, others, step, rest, is) =
      null_next number xs requests mid after o others outcomes step is (λ e. run_of requests (number + 1) xs after others ids (All-tail (IsListed config) None requests listed)
      (subst (λ (m : Slots). LaneRuns (number + 1) m (map (place_of (state_of config (number + 1) xs)) requests) requests after others) e
      (subst (λ (ps : List (Option ℕ)). LaneRuns (number + 1) mid ps requests after others) (same_place config number (number + 1) xs xs refl requests) rest)))
  run_of (Some request ∷ requests) number xs after outcomes ids listed (mid, o, others, step, rest, is) =
      take_one number xs request requests mid after o others outcomes ids (All-head (IsListed config) (Some request) requests listed) step is
      (λ ys same e. run_of requests (number + 1) ys after others (same ∙ ids) (All-tail (IsListed config) (Some request) requests listed)
      (subst (λ (m : Slots). LaneRuns (number + 1) m (map (place_of (state_of config (number + 1) ys)) requests) requests after others) e
      (subst (λ (ps : List (Option ℕ)). LaneRuns (number + 1) mid ps requests after others) (same_place config number (number + 1) xs ys (sym same) requests) rest)))

  pub whole_run : (requests : List (Option Request)) (number : ℕ) (xs : List TenantState) (places : List (Option ℕ)) (after : Slots) (outcomes : List (Option Outcome))
      → ids_of xs ≡ map (λ tenant. tenant.0) (tenants_of config.clients) → All (IsListed config) requests → places ≡ map (place_of (state_of config number xs)) requests
      → LaneRuns number (map Some xs) places requests after outcomes → Ends config number xs requests after outcomes
  whole_run requests number xs places after outcomes ids listed e h =
      run_of requests number xs after outcomes ids listed (subst (λ (ps : List (Option ℕ)). LaneRuns number (map Some xs) ps requests after outcomes) e h)
