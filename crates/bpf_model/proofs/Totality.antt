-- All code has one verdict: a slot or a visit has a first fault, or none has one, and then there is a bound.
use Rattle.std.proofs.Common.{◌≡◌, ◌⊎◌, ℕ, zero, suc, ◌+◌, ◌<◌, ◌≤◌, List, [], ◌∷◌, length, Option, Some, None, refl, sym, ap, subst, ◌∙◌, arith, inl, inr}
use Rattle.std.specs.Prelude.{slice_get}
use Rattle.std.proofs.lemmas.Bool.{cases_lt}
use Rattle.bpf_decode.specs.declared.insn.Insn.{Insn}
use Rattle.bpf_decode.specs.Faults.{IsCode}
use Rattle.bpf_model.specs.declared.fault.VerifyFault.{VerifyFault}
use Rattle.bpf_model.specs.Code.{insns_by_slot, insn_at}
use Rattle.bpf_model.specs.Machine.{frames}
use Rattle.bpf_model.specs.AbstractState.{start_state}
use Rattle.bpf_model.specs.Verdict.{structure_fault, slot_structure_fault, Visit, visits, max_visits, visit_fault, dataflow_fault, IsFirst, IsFirstVisit, IsAccepted, IsRejected}
use Rattle.bpf_model.specs.declared.profile.Profile.{Profile}
use Rattle.bpf_model.proofs.Options.{some_is}
use Rattle.bpf_model.proofs.Slots.{insn_at_less, first_at, few}
use Rattle.bpf_model.proofs.Visits.{visit_there}
use Rattle.bpf_model.proofs.Bounds.{one_bound, some_bound}

-- ---- search

-- below n: a first fault, or none
pub first_below : (fault_at : ℕ → Option VerifyFault) (n : ℕ) → ((fault : VerifyFault) × (slot : ℕ) × IsFirst fault_at fault slot) ⊎ ((k : ℕ) → k < n → fault_at k ≡ None)
first_below fault_at zero = inr (λ k h. absurd (omega arith))
first_below fault_at (suc n) =
    elim (first_below fault_at n) [
      | inl found ↦ inl found
      | inr none ↦ at (fault_at n) refl none
    ] where
      at : (o : Option VerifyFault) → fault_at n ≡ o → ((k : ℕ) → k < n → fault_at k ≡ None) → ((fault : VerifyFault) × (slot : ℕ) × IsFirst fault_at fault slot) ⊎ ((k : ℕ) → k < suc n → fault_at k ≡ None)
      at (Some fault) e none = inl (fault, n, (e, none))
      at None e none =
          inr (λ k h. elim (cases_lt k n) [
            | inl less ↦ none k less
            | inr more ↦ let same : n ≡ k = omega arith in subst (λ (j : ℕ). fault_at j ≡ None) same e
          ])

-- ---- faults lie in the code

none_beyond : (code : List Insn) (k : ℕ) → length (insns_by_slot code) ≤ k → insn_at code k ≡ None
none_beyond code k h = cases (insn_at code k) refl where
  cases : (o : Option Insn) → insn_at code k ≡ o → o ≡ None
  cases None e = refl
  cases (Some x) e = absurd (let less = insn_at_less code k x e in omega arith)

pub structure_beyond : (code : List Insn) (k : ℕ) → length (insns_by_slot code) ≤ k → structure_fault code k ≡ None
structure_beyond code k h = ap (slot_structure_fault code k) (none_beyond code k h)

everywhere : (fault_at : ℕ → Option VerifyFault) (n : ℕ) → ((k : ℕ) → k < n → fault_at k ≡ None) → ((k : ℕ) → n ≤ k → fault_at k ≡ None) → (k : ℕ) → fault_at k ≡ None
everywhere fault_at n low high k = elim (cases_lt k n) [ inl less ↦ low k less | inr more ↦ high k more ]

-- ---- the verdict

-- visits without a fault have a bound
accepts : (profile : Profile) (bytes : List ℕ) (code : List Insn) → IsCode bytes code → ((slot : ℕ) → structure_fault code slot ≡ None) → ((index : ℕ) → dataflow_fault profile code index ≡ None) → (bound : ℕ) × IsAccepted profile code bound
accepts profile bytes code c structure dataflow =
    let bound = some_bound code structure frames 0 (start_state profile) (first_at code (few bytes code c).0) in
    (bound.0, record { structure = structure; dataflow = dataflow; longest = bound.1 })

-- the first visit that has a fault
first_visit : (profile : Profile) (code : List Insn) (fault : VerifyFault) (index : ℕ) → IsFirst (dataflow_fault profile code) fault index → (slot : ℕ) × IsFirstVisit profile code fault slot
first_visit profile code fault index first =
    let visit = visit_there index (slice_get (visits profile code) index) fault first.0 in
    (visit.0.slot, record { index = index; visit = visit.0; visit_is = visit.1; slot_is = refl; first = first })

-- visit 65,537 has a fault, where there is one; so no later one is the first
none_later : (profile : Profile) (code : List Insn) → ((k : ℕ) → k < max_visits + 1 → dataflow_fault profile code k ≡ None) → (k : ℕ) → dataflow_fault profile code k ≡ None
none_later profile code none k =
    elim (cases_lt k (max_visits + 1)) [
      | inl less ↦ none k less
      | inr more ↦
          ap (visit_fault k) (past (visits profile code) k (omega (arith, more, end_of (visits profile code) max_visits (λ e. stands e (none max_visits (omega arith))))))
    ] where
      past : (vs : List Visit) (i : ℕ) → length vs ≤ i → slice_get vs i ≡ None
      past [] i h = refl
      past (v ∷ vs) zero h = absurd (omega (arith, h))
      past (v ∷ vs) (suc i) h = past vs i (omega (arith, h))

      end_of : (vs : List Visit) (i : ℕ) → (((v : Visit) × (slice_get vs i ≡ Some v)) → ⊥) → length vs ≤ i
      end_of [] i h = omega arith
      end_of (v ∷ vs) zero h = absurd (h (v, refl))
      end_of (v ∷ vs) (suc i) h = let rest = end_of vs i h in omega (arith, rest)

      stands : ((v : Visit) × (slice_get (visits profile code) max_visits ≡ Some v)) → dataflow_fault profile code max_visits ≡ None → ⊥
      stands (v, is) none = let some = sym (ap (visit_fault max_visits) is) ∙ none in cc

pub decided : (profile : Profile) (bytes : List ℕ) (code : List Insn) → IsCode bytes code → ((bound : ℕ) × IsAccepted profile code bound) ⊎ ((fault : VerifyFault) × (slot : ℕ) × IsRejected profile code fault slot)
decided profile bytes code c =
    elim (first_below (structure_fault code) (length (insns_by_slot code))) [
      | inl (fault, slot, first) ↦ inr (fault, slot, inl first)
      | inr structure ↦
          flows (everywhere (structure_fault code) (length (insns_by_slot code)) structure (structure_beyond code)) (first_below (dataflow_fault profile code) (max_visits + 1))
    ] where
      flows : ((slot : ℕ) → structure_fault code slot ≡ None) → ((fault : VerifyFault) × (index : ℕ) × IsFirst (dataflow_fault profile code) fault index) ⊎ ((k : ℕ) → k < max_visits + 1 → dataflow_fault profile code k ≡ None) → ((bound : ℕ) × IsAccepted profile code bound) ⊎ ((fault : VerifyFault) × (slot : ℕ) × IsRejected profile code fault slot)
      flows structure (inl (fault, index, first)) =
          let visit = first_visit profile code fault index first in inr (fault, visit.0, inr (structure, visit.1))
      flows structure (inr none) = inl (accepts profile bytes code c structure (none_later profile code none))

-- ---- there is one verdict

pub same_bound : (profile : Profile) (code : List Insn) (a b : ℕ) → IsAccepted profile code a → IsAccepted profile code b → a ≡ b
same_bound profile code a b x y = one_bound code x.structure frames 0 (start_state profile) a b x.longest y.longest

fault_is : (x y : VerifyFault) → Some x ≡ Some y → x ≡ y
fault_is x y e = cc

same_first : (fault_at : ℕ → Option VerifyFault) (x y : VerifyFault) (s t : ℕ) → IsFirst fault_at x s → IsFirst fault_at y t → (x ≡ y) × (s ≡ t)
same_first fault_at x y s t p q =
    elim (cases_lt s t) [
      | inl less ↦ absurd (let none = sym p.0 ∙ q.1 s less in cc)
      | inr more ↦ elim (cases_lt t s) [
        | inl less ↦ absurd (let none = sym q.0 ∙ p.1 t less in cc)
        | inr even ↦
            let same : t ≡ s = omega arith in
            (fault_is x y (sym p.0 ∙ sym (ap fault_at same) ∙ q.0), sym same)
      ]
    ]

never_first : (fault_at : ℕ → Option VerifyFault) (x : VerifyFault) (s : ℕ) → ((k : ℕ) → fault_at k ≡ None) → IsFirst fault_at x s → ⊥
never_first fault_at x s none p = let both = sym p.0 ∙ none s in cc

same_visit : (profile : Profile) (code : List Insn) (x y : VerifyFault) (s t : ℕ) → IsFirstVisit profile code x s → IsFirstVisit profile code y t → (x ≡ y) × (s ≡ t)
same_visit profile code x y s t p q =
    let same = same_first (dataflow_fault profile code) x y p.index q.index p.first q.first in
    let visit : Some p.visit ≡ Some q.visit = sym p.visit_is ∙ ap (slice_get (visits profile code)) same.1 ∙ q.visit_is in
    (same.0, p.slot_is ∙ ap (λ (v : Visit). v.slot) (some_is p.visit q.visit visit) ∙ sym q.slot_is)

pub same_fault : (profile : Profile) (code : List Insn) (x y : VerifyFault) (s t : ℕ) → IsRejected profile code x s → IsRejected profile code y t → (x ≡ y) × (s ≡ t)
same_fault profile code x y s t (inl p) (inl q) = same_first (structure_fault code) x y s t p q
same_fault profile code x y s t (inl p) (inr q) = absurd (never_first (structure_fault code) x s q.0 p)
same_fault profile code x y s t (inr p) (inl q) = absurd (never_first (structure_fault code) y t p.0 q)
same_fault profile code x y s t (inr p) (inr q) = same_visit profile code x y s t p.1 q.1

pub not_both : (profile : Profile) (code : List Insn) (bound : ℕ) (x : VerifyFault) (s : ℕ) → IsAccepted profile code bound → IsRejected profile code x s → ⊥
not_both profile code bound x s a (inl p) = never_first (structure_fault code) x s a.structure p
not_both profile code bound x s a (inr p) = never_first (dataflow_fault profile code) x p.1.index a.dataflow p.1.first
