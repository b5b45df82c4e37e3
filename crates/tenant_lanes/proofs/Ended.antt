-- Lanes that have run, put together.
use Rattle.std.proofs.Common.{◌≡◌, ℕ, ◌+◌, ◌<◌, ◌≤◌, List, [], ◌∷◌, length, get_or, map, take, replicate, Option, Some, None, refl, sym, ap, subst, ◌∙◌, arith}
use Rattle.std.specs.declared.alloc.AllocError.{AllocError}
use Rattle.std.specs.Prelude.{All, IfSome, IsSome, MatchOption, Result, Ok}
use Rattle.std.proofs.lemmas.Result.{IfOk-at_ok}
use Rattle.std.proofs.lemmas.List.{length-replicate, length-set, take_all}
use Rattle.std.proofs.lemmas.List.Elements.{All-cons, All-nil}
use Rattle.host_types.specs.declared.config.ClientEntry.{ClientEntry}
use Rattle.host_types.specs.declared.request.Request.{Request}
use Rattle.host_types.specs.Configuration.{tenants_of, entry_of}
use Rattle.service_model.specs.declared.outcome.Outcome.{Outcome}
use Rattle.service_model.specs.TenantStates.{TenantState, Service}
use Rattle.service_model.proofs.TenantIndexes.{index_for}
use Rattle.tenant_lanes.specs.declared.lane.Done.{Done}
use Rattle.tenant_lanes.specs.declared.lane.Lane.{Lane}
use Rattle.tenant_lanes.specs.Dealing.{place_of}
use Rattle.tenant_lanes.specs.Lanes.{IsDealt}
use Rattle.tenant_lanes.specs.Runs.{Slots, TakesInSlot, PassesBy, LaneStep, LaneRuns, HaveRun, filled, filled_by, AreApart, NoneAsked}
use Rattle.tenant_lanes.proofs.Filling.{length-filled}
use Rattle.tenant_lanes.proofs.OneLane.{join_runs, none_run}
use Rattle.tenant_lanes.proofs.Dealt.{filled_by_more, lanes_whole}
use Rattle.tenant_lanes.proofs.WholeRun.{ids_of, state_of, IsListed, Ends, index_within, whole_run}

-- ---- lengths

pub step_length : (n : ℕ) (slots : Slots) (place : Option ℕ) (request : Option Request) (after : Slots) (o : Option Outcome) → LaneStep n slots place request after o → length after ≡ length slots
step_length n slots None request after o h = ap length h.0
step_length n slots (Some i) None after o h = ap length h.0
step_length n slots (Some i) (Some request) after o h = cases (get_or slots i None) h where
  cases : (slot : Option TenantState) → MatchOption slot (PassesBy slots after o) (λ part. TakesInSlot n slots i part request after o) → length after ≡ length slots
  cases None h = ap length h.0
  cases (Some part) h = ap length h.after_is ∙ length-set slots i (Some h.changed)

pub runs_slots : (n : ℕ) (slots : Slots) (places : List (Option ℕ)) (requests : List (Option Request)) (after : Slots) (os : List (Option Outcome)) → LaneRuns n slots places requests after os → length after ≡ length slots
runs_slots n slots [] requests after os h = ap length h.0
runs_slots n slots (place ∷ places) [] after os h = ap length h.0
runs_slots n slots (place ∷ places) (request ∷ requests) after os (mid, o, others, step, rest, is) = runs_slots (n + 1) mid places requests after others rest ∙ step_length (n + 1) slots place request mid o step

pub runs_length : (n : ℕ) (slots : Slots) (places : List (Option ℕ)) (requests : List (Option Request)) (after : Slots) (os : List (Option Outcome)) → length places ≡ length requests → LaneRuns n slots places requests after os
    → length os ≡ length requests
runs_length n slots [] [] after os e h = ap length h.1
runs_length n slots [] (request ∷ requests) after os e h = absurd (omega arith)
runs_length n slots (place ∷ places) [] after os e h = absurd (omega arith)
runs_length n slots (place ∷ places) (request ∷ requests) after os e (mid, o, others, step, rest, is) =
    let later = runs_length (n + 1) mid places requests after others (omega arith) rest in
    ap length is ∙ (let same : length (o ∷ others) ≡ length (request ∷ requests) = omega (arith, later) in same)

-- ---- lane after lane

-- the lane whose end this is
pub lane_ran : (number : ℕ) (places : List (Option ℕ)) (requests : List (Option Request)) (lanes : List Lane) (all : List (Result Done AllocError)) (k : ℕ) (d : Result Done AllocError) (e : Lane) (done : Done)
    → HaveRun number places requests lanes all → k < length lanes → d ≡ get_or all k d → d ≡ Ok done → LaneRuns number (get_or lanes k e).slots.items places requests done.slots.items done.outcomes.items
lane_ran number places requests lanes all k d e done h lt read is =
    IfOk-at_ok (λ (x : Done). LaneRuns number (get_or lanes k e).slots.items places requests x.slots.items x.outcomes.items) (sym read ∙ is) (h k d e lt)

-- what the first lanes have is put in
pub record FilledTo (number : ℕ) (places : List (Option ℕ)) (requests : List (Option Request)) (lanes : List Lane) (others : Slots) (k : ℕ) (slots : Slots) (outcomes : List (Option Outcome)) : Type 0 where
  pub runs : LaneRuns number (filled_by (take k lanes) others) places requests slots outcomes
  pub same_length : length slots ≡ length others
  pub many : length outcomes ≡ length requests

module _ (number : ℕ) (places : List (Option ℕ)) (requests : List (Option Request)) (lanes : List Lane) (others : Slots) (even : length places ≡ length requests) where
  pub filled_none : (outcomes : List (Option Outcome)) → outcomes ≡ replicate (length requests) None → NoneAsked others places → FilledTo number places requests lanes others 0 others outcomes
  filled_none outcomes e none = record {
    runs = subst (λ (os : List (Option Outcome)). LaneRuns number others places requests others os) (sym e) (none_run number others places requests even none);
    same_length = refl;
    many = ap length e ∙ length-replicate (length requests) None;
  }

  module _ (k j : ℕ) (e : Lane) (slots own : Slots) (outcomes done : List (Option Outcome)) (next : j ≡ k + 1) (lt : k < length lanes) (h : FilledTo number places requests lanes others k slots outcomes)
      (run : LaneRuns number (get_or lanes k e).slots.items places requests own done) (long : length (get_or lanes k e).slots.items ≡ length others) where
    pub own_length : length own ≡ length slots
    own_length = runs_slots number (get_or lanes k e).slots.items places requests own done run ∙ long ∙ sym h.same_length

    pub done_length : length done ≡ length outcomes
    done_length = runs_length number (get_or lanes k e).slots.items places requests own done even run ∙ sym h.many

    pub filled_more : AreApart others lanes → (after : Slots) (all : List (Option Outcome)) → after ≡ filled own slots → all ≡ filled done outcomes → FilledTo number places requests lanes others j after all
    filled_more apart after all is are =
        let both = join_runs number (get_or lanes k e).slots.items (filled_by (take k lanes) others) places requests own slots done outcomes (apart k e lt) run h.runs in
        let here : filled_by (take j lanes) others ≡ filled (get_or lanes k e).slots.items (filled_by (take k lanes) others) = ap (λ (n : ℕ). filled_by (take n lanes) others) next ∙ filled_by_more lanes k e others lt in
        record {
          runs = subst (λ (s : Slots). LaneRuns number s places requests after all) (sym here)
              (subst (λ (s : Slots). LaneRuns number (filled (get_or lanes k e).slots.items (filled_by (take k lanes) others)) places requests s all) (sym is)
              (subst (λ (os : List (Option Outcome)). LaneRuns number (filled (get_or lanes k e).slots.items (filled_by (take k lanes) others)) places requests (filled own slots) os) (sym are) both));
          same_length = ap length is ∙ length-filled own slots own_length ∙ h.same_length;
          many = ap length are ∙ length-filled done outcomes done_length ∙ h.many;
        }

  pub filled_all : (k : ℕ) (slots : Slots) (outcomes : List (Option Outcome)) → length lanes ≤ k → FilledTo number places requests lanes others k slots outcomes
      → LaneRuns number (filled_by lanes others) places requests slots outcomes
  filled_all k slots outcomes le h = subst (λ (ls : List Lane). LaneRuns number (filled_by ls others) places requests slots outcomes) (take_all k lanes le) h.runs

-- ---- all requests

pub places_within : (state : Service) (requests : List (Option Request)) (places : List (Option ℕ)) (n : ℕ) → n ≡ length state.tenants → places ≡ map (place_of state) requests → All (λ place. IfSome place (λ index. index < n)) places
places_within state requests places n e is = subst (All (λ place. IfSome place (λ index. index < n))) (sym is) (each requests) where
  within : (place : Option ℕ) (entry : Option ClientEntry) → index_for state.tenants entry ≡ place → IfSome place (λ index. index < n)
  within None entry at = tt
  within (Some i) entry at = let lt = index_within state.tenants entry i at in omega (arith, lt, e)

  one : (request : Option Request) → IfSome (place_of state request) (λ index. index < n)
  one None = tt
  one (Some request) = within (index_for state.tenants (entry_of state.config.clients request.client.0)) (entry_of state.config.clients request.client.0) refl

  each : (rs : List (Option Request)) → All (λ place. IfSome place (λ index. index < n)) (map (place_of state) rs)
  each [] = All-nil (λ (place : Option ℕ). IfSome place (λ index. index < n))
  each (r ∷ rs) = All-cons (λ (place : Option ℕ). IfSome place (λ index. index < n)) (place_of state r) (map (place_of state) rs) (one r) (each rs)

pub all_some : {X : Type 0} (xs : List X) (slots : List (Option X)) → slots ≡ map Some xs → All IsSome slots
all_some {X} xs slots e = subst (All IsSome) (sym e) (each xs) where
  each : (ys : List X) → All IsSome (map Some ys)
  each [] = All-nil IsSome
  each (y ∷ ys) = All-cons IsSome (Some y) (map Some ys) refl (each ys)

pub same_items : {X : Type 0} (xs ys : List X) → map Some xs ≡ map Some ys → xs ≡ ys
same_items [] [] e = refl
same_items [] (y ∷ ys) e = absurd cc
same_items (x ∷ xs) [] e = absurd cc
same_items {X} (x ∷ xs) (y ∷ ys) e =
    let first : x ≡ y = cc in
    let later : map Some xs ≡ map Some ys = cc in
    let rest = same_items xs ys later in
    λ i. first i ∷ rest i

-- the end of it all
pub ended : (state : Service) (number workers : ℕ) (parts : List TenantState) (places : List (Option ℕ)) (requests : List (Option Request)) (lanes : List Lane) (others after : Slots) (outcomes : List (Option Outcome))
    → 0 < workers → number ≡ state.number → parts ≡ state.tenants → IsDealt workers places parts lanes others
    → ids_of state.tenants ≡ map (λ tenant. tenant.0) (tenants_of state.config.clients) → All (IsListed state.config) requests → places ≡ map (place_of state) requests
    → LaneRuns number (filled_by lanes others) places requests after outcomes → Ends state.config number state.tenants requests after outcomes
ended state number workers parts places requests lanes others after outcomes some same all dealt ids listed is h =
    let whole : filled_by lanes others ≡ map Some state.tenants = lanes_whole workers places parts lanes others dealt some ∙ ap (map Some) all in
    let here : places ≡ map (place_of (state_of state.config number state.tenants)) requests = is ∙ ap (λ (n : ℕ). map (place_of (state_of state.config n state.tenants)) requests) (sym same) in
    whole_run state.config requests number state.tenants places after outcomes ids listed here (subst (λ (s : Slots). LaneRuns number s places requests after outcomes) whole h)
