-- The list of visits: none has a fault, or there is a first one that has.
use Rattle.std.proofs.Common.{◌≡◌, ℕ, zero, suc, ◌+◌, ◌<◌, ◌≤◌, Bool, cond, List, [], ◌∷◌, ◌++◌, length, Option, Some, None, refl, sym, ap, subst, ◌∙◌, arith, inl, inr}
use Rattle.std.specs.Prelude.{slice_get, nat_le}
use Rattle.std.specs.List.{AllByRecursion}
use Rattle.std.proofs.lemmas.Bool.{cases_lt}
use Rattle.std.proofs.lemmas.Bool.Decides.{leb_tells}
use Rattle.bpf_decode.specs.declared.insn.Insn.{Insn}
use Rattle.bpf_model.specs.declared.fault.VerifyFault.{VerifyFault}
use Rattle.bpf_model.specs.declared.fault.VerifyFault.TheVariants.{TooComplex}
use Rattle.bpf_model.specs.Code.{insn_at}
use Rattle.bpf_model.specs.AbstractState.{AbstractState}
use Rattle.bpf_model.specs.Dataflow.{Activation, state_at, called}
use Rattle.bpf_model.specs.Verdict.{Visit, Visits, insn_dataflow_fault, visits_of, visits_of_callee, visits_at, visits_below, visits, max_visits, visit_fault, dataflow_fault, IsFirstVisit}
use Rattle.bpf_model.specs.declared.profile.Profile.{Profile}

-- no visit has a fault
abbrev pub AllRight : List Visit → Type 0
AllRight vs = AllByRecursion (λ (v : Visit). v.fault ≡ None) vs

pub right_apart : (xs ys : List Visit) → AllRight (xs ++ ys) → AllRight xs × AllRight ys
right_apart [] ys h = (tt, h)
right_apart (x ∷ xs) ys h = let rest = right_apart xs ys h.1 in ((h.0, rest.0), rest.1)

pub right_both : (xs ys : List Visit) → AllRight xs → AllRight ys → AllRight (xs ++ ys)
right_both [] ys h k = k
right_both (x ∷ xs) ys h k = (h.0, right_both xs ys h.1 k)

pub right_at : (code : List Insn) (a : Activation) (V : Visits) (t n : ℕ) → AllRight (visits_below code a V n) → t < n → AllRight (visits_at code a V t)
right_at code a V t zero h lt = absurd (omega (arith, lt))
right_at code a V t (suc n) h lt =
    let both = right_apart (visits_below code a V n) (visits_at code a V n) h in
    elim (cases_lt t n) [
      | inl less ↦ right_at code a V t n both.0 less
      | inr more ↦ let same : n ≡ t = omega (arith, lt, more) in subst (λ (k : ℕ). AllRight (visits_at code a V k)) same both.1
    ]

-- the visits of a slot: its own and those of its callee
pub visits_here : (code : List Insn) (a : Activation) (V : Visits) (t : ℕ) (state : AbstractState) (x : Insn) → state_at code a t ≡ Some state → insn_at code t ≡ Some x → visits_at code a V t ≡ record { slot = t; fault = insn_dataflow_fault a.depth state x } ∷ visits_of_callee a V state (called t x)
visits_here code a V t state x known is =
    ap (λ (o : Option AbstractState). visits_of a V t o (insn_at code t)) known ∙ ap (visits_of a V t (Some state)) is

-- ---- few visits that have no fault

fault_is_none : (n : ℕ) (f : Option VerifyFault) → cond (nat_le max_visits n) (Some TooComplex) f ≡ None → (n < max_visits) × (f ≡ None)
fault_is_none n f h =
    elim (leb_tells max_visits n) [
      | inl (e, far) ↦ absurd (let some = sym (ap (λ (b : Bool). cond b (Some TooComplex) f) e) ∙ h in cc)
      | inr (e, near) ↦ (near, sym (ap (λ (b : Bool). cond b (Some TooComplex) f) e) ∙ h)
    ]

none_from : (vs : List Visit) (n : ℕ) → n ≤ max_visits → ((i : ℕ) → visit_fault (n + i) (slice_get vs i) ≡ None) → AllRight vs × (n + length vs ≤ max_visits)
none_from [] n h all = (tt, omega (arith, h))
none_from (v ∷ vs) n h all =
    let here = fault_is_none (n + 0) v.fault (all 0) in
    let less = here.0 in
    let rest = none_from vs (n + 1) (omega (arith, less)) (λ i. let same : n + suc i ≡ n + 1 + i = omega arith in ap (λ (k : ℕ). visit_fault k (slice_get vs i)) (sym same) ∙ all (suc i)) in
    let many = rest.1 in
    ((here.1, rest.0), omega (arith, many))

pub all_right : (profile : Profile) (code : List Insn) → ((index : ℕ) → dataflow_fault profile code index ≡ None) → AllRight (visits profile code) × (length (visits profile code) ≤ max_visits)
all_right profile code all =
    let whole = none_from (visits profile code) 0 (omega arith) (λ i. let same : i ≡ 0 + i = omega arith in ap (λ (k : ℕ). visit_fault k (slice_get (visits profile code) i)) (sym same) ∙ all i) in
    let many = whole.1 in
    (whole.0, omega (arith, many))

near_none : (n : ℕ) (f : Option VerifyFault) → n < max_visits → f ≡ None → cond (nat_le max_visits n) (Some TooComplex) f ≡ None
near_none n f less h =
    elim (leb_tells max_visits n) [
      | inl (e, far) ↦ absurd (omega (arith, far, less))
      | inr (e, near) ↦ ap (λ (b : Bool). cond b (Some TooComplex) f) e ∙ h
    ]

right_fault : (vs : List Visit) (n i : ℕ) → AllRight vs → n + length vs ≤ max_visits → visit_fault (n + i) (slice_get vs i) ≡ None
right_fault [] n i h few = refl
right_fault (v ∷ vs) n zero h few = near_none (n + 0) v.fault (omega (arith, few)) h.0
right_fault (v ∷ vs) n (suc i) h few =
    let same : n + suc i ≡ n + 1 + i = omega arith in
    ap (λ (k : ℕ). visit_fault k (slice_get vs i)) same ∙ right_fault vs (n + 1) i h.1 (omega (arith, few))

pub no_faults : (profile : Profile) (code : List Insn) → AllRight (visits profile code) → length (visits profile code) ≤ max_visits → (index : ℕ) → dataflow_fault profile code index ≡ None
no_faults profile code right few index =
    let same : index ≡ 0 + index = omega arith in
    ap (λ (k : ℕ). visit_fault k (slice_get (visits profile code) index)) same ∙ right_fault (visits profile code) 0 index right (omega (arith, few))

-- ---- a first visit that has a fault

get_behind : (xs : List Visit) (v : Visit) (ys : List Visit) → slice_get (xs ++ v ∷ ys) (length xs) ≡ Some v
get_behind [] v ys = refl
get_behind (x ∷ xs) v ys = get_behind xs v ys

right_before : (xs ys : List Visit) (n i : ℕ) → AllRight xs → n + length xs ≤ max_visits → i < length xs → visit_fault (n + i) (slice_get (xs ++ ys) i) ≡ None
right_before [] ys n i h few lt = absurd (omega (arith, lt))
right_before (x ∷ xs) ys n zero h few lt = near_none (n + 0) x.fault (omega (arith, few)) h.0
right_before (x ∷ xs) ys n (suc i) h few lt =
    let same : n + suc i ≡ n + 1 + i = omega arith in
    ap (λ (k : ℕ). visit_fault k (slice_get (xs ++ ys) i)) same ∙ right_before xs ys (n + 1) i h.1 (omega (arith, few)) (omega (arith, lt))

-- behind visits that have none comes one that has this fault
pub first_visit : (profile : Profile) (code : List Insn) (fault : VerifyFault) (slot : ℕ) (first : List Visit) (visit : Visit) (rest : List Visit) → visits profile code ≡ first ++ visit ∷ rest → AllRight first → 0 + length first ≤ max_visits → visit_fault (0 + length first) (Some visit) ≡ Some fault → slot ≡ visit.slot → IsFirstVisit profile code fault slot
first_visit profile code fault slot first visit rest whole right few fault_is slot_is =
    record { index = length first; visit = visit; visit_is = here; slot_is = slot_is; first = (ap (visit_fault (length first)) here ∙ ap (λ (n : ℕ). visit_fault n (Some visit)) same ∙ fault_is, before) } where
      here : slice_get (visits profile code) (length first) ≡ Some visit
      here = ap (λ (vs : List Visit). slice_get vs (length first)) whole ∙ get_behind first visit rest

      same : length first ≡ 0 + length first
      same = omega arith

      before : (k : ℕ) → k < length first → dataflow_fault profile code k ≡ None
      before k lt =
          let is : k ≡ 0 + k = omega arith in
          ap (λ (vs : List Visit). visit_fault k (slice_get vs k)) whole ∙ ap (λ (n : ℕ). visit_fault n (slice_get (first ++ visit ∷ rest) k)) is ∙ right_before first (visit ∷ rest) 0 k right few lt

-- a visit that has a fault is one
pub visit_there : (index : ℕ) (o : Option Visit) (fault : VerifyFault) → visit_fault index o ≡ Some fault → (v : Visit) × (o ≡ Some v)
visit_there index None fault e = absurd cc
visit_there index (Some v) fault e = (v, refl)
