-- A function that is entered in a sharper state is visited no more often, without a fault, and has no greater bound.
use Rattle.std.proofs.Common.{◌≡◌, ℕ, zero, suc, ◌+◌, ◌-◌, ◌<◌, ◌≤◌, List, [], ◌∷◌, ◌++◌, length, Option, Some, None, refl, sym, subst, ◌∙◌, arith, inl, inr}
use Rattle.std.specs.List.{AllByRecursion}
use Rattle.std.proofs.lemmas.List.{length-append}
use Rattle.bpf_decode.specs.declared.insn.Insn.{Insn}
use Rattle.bpf_decode.specs.Encoding.{IsInsn}
use Rattle.bpf_model.specs.Code.{insns_by_slot, insn_at}
use Rattle.bpf_model.specs.Machine.{frames}
use Rattle.bpf_model.specs.AbstractState.{AbstractState, Edge, IsOneOf}
use Rattle.bpf_model.specs.Dataflow.{activation, called, entered, state_at, edges_at, exits, TakesIn, Takes, Path, HasBound}
use Rattle.bpf_model.specs.Verdict.{structure_fault, Visit, visits_of, visits_of_callee, visits_at, visits_below, visits_in}
use Rattle.bpf_model.proofs.Edges.{stands, called_begins}
use Rattle.bpf_model.proofs.Visits.{AllRight, right_both, visits_here}
use Rattle.bpf_model.proofs.Bounds.{some_bound}
use Rattle.verifier_laws.proofs.States.{IsSharper}
use Rattle.verifier_laws.proofs.Checks.{fault_more}
use Rattle.verifier_laws.proofs.Flow.{HasEdge, EdgesSharper, Enters, At, at_slot, callee_enters, state_sharper, edges_at_sharper}

-- ---- visits

-- visits without a fault, and no more of them than these
pub record AreFewer (vs ws : List Visit) : Type 0 where
  pub right : AllRight vs
  pub few : length vs ≤ length ws

fewer_append : (us vs ws xs : List Visit) → AreFewer us ws → AreFewer vs xs → AreFewer (us ++ vs) (ws ++ xs)
fewer_append us vs ws xs p q = record {
  right = right_both us vs p.right q.right;
  few = let left = length-append us vs in let right = length-append ws xs in let one = p.few in let other = q.few in omega (arith, left, right, one, other);
}

abbrev pub VisitsFewer : List Insn → ℕ → Type 0
VisitsFewer code left =
    (entry : ℕ) (s t : AbstractState) → Enters code left entry s t → AreFewer (visits_in code left entry s) (visits_in code left entry t)

module _ (code : List Insn) (code_fits : AllByRecursion IsInsn code) (left entry : ℕ) (shallow : left < frames) (s t : AbstractState) (enters : Enters code (suc left) entry s t) (deeper : VisitsFewer code left) where
  callee_fewer : (x y : AbstractState) (slot : ℕ) (i : Insn) → IsSharper x y → At code left (activation left (exits code left) entry t) slot y i → (o : Option ℕ) → AllRight (visits_of_callee (activation left (exits code left) entry t) (visits_in code left) y o) → AreFewer (visits_of_callee (activation left (exits code left) entry s) (visits_in code left) x o) (visits_of_callee (activation left (exits code left) entry t) (visits_in code left) y o)
  callee_fewer x y slot i p here None right = record { right = tt; few = omega arith }
  callee_fewer x y slot i p here (Some target) right =
      deeper target (entered (activation left (exits code left) entry s) x) (entered (activation left (exits code left) entry t) y) (callee_enters code code_fits left entry shallow s t enters x y p here.fits here.none target right)

  visits_here_fewer : (slot : ℕ) → AreFewer (visits_at code (activation left (exits code left) entry s) (visits_in code left) slot) (visits_at code (activation left (exits code left) entry t) (visits_in code left) slot)
  visits_here_fewer slot = of (state_at code (activation left (exits code left) entry s) slot) (insn_at code slot) refl refl where
    of : (o : Option AbstractState) (i : Option Insn) → state_at code (activation left (exits code left) entry s) slot ≡ o → insn_at code slot ≡ i → AreFewer (visits_of (activation left (exits code left) entry s) (visits_in code left) slot o i) (visits_at code (activation left (exits code left) entry t) (visits_in code left) slot)
    of None i e f = record { right = tt; few = omega arith }
    of (Some x) None e f = record { right = tt; few = omega arith }
    of (Some x) (Some i) e f =
        let y = state_sharper code code_fits left entry shallow s t enters slot x e in
        let here = at_slot code code_fits left entry shallow s t enters slot y.0 i y.1 f in
        let rest = callee_fewer x y.0 slot i y.2 here (called slot i) here.right in
        subst (AreFewer (visits_of (activation left (exits code left) entry s) (visits_in code left) slot (Some x) (Some i))) (sym (visits_here code (activation left (exits code left) entry t) (visits_in code left) slot y.0 i y.1 f)) (record {
          right = (fault_more x y.0 y.2 here.fits (frames - 1 - left) i here.insn here.passes, rest.right);
          few = let less = rest.few in omega (arith, less);
        })

  visits_below_fewer : (n : ℕ) → AreFewer (visits_below code (activation left (exits code left) entry s) (visits_in code left) n) (visits_below code (activation left (exits code left) entry t) (visits_in code left) n)
  visits_below_fewer zero = record { right = tt; few = omega arith }
  visits_below_fewer (suc n) =
      fewer_append (visits_below code (activation left (exits code left) entry s) (visits_in code left) n) (visits_at code (activation left (exits code left) entry s) (visits_in code left) n) (visits_below code (activation left (exits code left) entry t) (visits_in code left) n) (visits_at code (activation left (exits code left) entry t) (visits_in code left) n) (visits_below_fewer n) (visits_here_fewer n)

pub visits_fewer : (code : List Insn) → AllByRecursion IsInsn code → (left : ℕ) → left ≤ frames → VisitsFewer code left
visits_fewer code code_fits zero few entry s t enters = record { right = tt; few = omega arith }
visits_fewer code code_fits (suc left) few entry s t enters =
    visits_below_fewer code code_fits left entry (omega arith) s t enters (visits_fewer code code_fits left (omega arith)) (length (insns_by_slot code))

-- ---- bounds

abbrev pub BoundsNoGreater : List Insn → ℕ → Type 0
BoundsNoGreater code left =
    (entry : ℕ) (s t : AbstractState) → Enters code left entry s t → (x y : ℕ) → HasBound code left entry s x → HasBound code left entry t y → x ≤ y

-- one of the edges to this slot
edge_there : (es fs : List Edge) (e : Edge) → EdgesSharper es fs → IsOneOf e es → HasEdge fs e
edge_there [] fs e all h = absurd h
edge_there (d ∷ ds) fs e all (inl is) = subst (HasEdge fs) (sym is) all.0
edge_there (d ∷ ds) fs e all (inr h) = edge_there ds fs e all.1 h

module _ (code : List Insn) (code_fits : AllByRecursion IsInsn code) (structure : (slot : ℕ) → structure_fault code slot ≡ None) (left entry : ℕ) (shallow : left < frames) (s t : AbstractState) (enters : Enters code (suc left) entry s t) (deeper : BoundsNoGreater code left) where
  -- what an instruction takes, and at least as much
  abbrev TakesMore : ℕ → ℕ → Type 0
  TakesMore slot own =
      (more : ℕ) × Takes code (activation left (exits code left) entry t) (HasBound code left) slot more × (own ≤ more)

  callee_takes : (x y : AbstractState) (slot : ℕ) (i : Insn) → IsSharper x y → At code left (activation left (exits code left) entry t) slot y i → (own : ℕ) (o : Option ℕ) → called slot i ≡ o → insn_at code slot ≡ Some i → AllRight (visits_of_callee (activation left (exits code left) entry t) (visits_in code left) y o) → TakesIn (activation left (exits code left) entry s) (HasBound code left) x o own → (more : ℕ) × TakesIn (activation left (exits code left) entry t) (HasBound code left) y o more × (own ≤ more)
  callee_takes x y slot i p here own None calls is right takes = (1, refl, omega (arith, takes))
  callee_takes x y slot i p here own (Some target) calls is right (bound, has, sum) =
      let begins = called_begins code slot i target (stands code slot i (structure slot) is) calls in
      let b = some_bound code structure left target (entered (activation left (exits code left) entry t) y) begins in
      let less = deeper target (entered (activation left (exits code left) entry s) x) (entered (activation left (exits code left) entry t) y) (callee_enters code code_fits left entry shallow s t enters x y p here.fits here.none target right) bound b.0 has b.1 in
      (1 + b.0, (b.0, b.1, refl), omega (arith, sum, less))

  takes_more : (slot own : ℕ) → Takes code (activation left (exits code left) entry s) (HasBound code left) slot own → TakesMore slot own
  takes_more slot own takes =
      let y = state_sharper code code_fits left entry shallow s t enters slot takes.state takes.state_is in
      let here = at_slot code code_fits left entry shallow s t enters slot y.0 takes.insn y.1 takes.insn_is in
      let more = callee_takes takes.state y.0 slot takes.insn y.2 here own (called slot takes.insn) refl takes.insn_is here.right takes.takes in (
        more.0,
        record { state = y.0; state_is = y.1; insn = takes.insn; insn_is = takes.insn_is; takes = more.1 },
        more.2,
      )

  path_more : (n count slot : ℕ) → Path code (activation left (exits code left) entry s) (HasBound code left) n count slot → (more : ℕ) × Path code (activation left (exits code left) entry t) (HasBound code left) n more slot × (count ≤ more)
  path_more zero count slot (at, none) = (0, (at, refl), omega (arith, none))
  path_more (suc n) count slot (from, e, before, own, path, takes, one, to, sum) =
      let earlier = path_more n before from path in
      let step = takes_more from own takes in
      let edge = edge_there (edges_at code (activation left (exits code left) entry s) from) (edges_at code (activation left (exits code left) entry t) from) e (edges_at_sharper code code_fits left entry shallow s t enters from) one in
      let first = earlier.2 in
      let second = step.2 in (
        earlier.0 + step.0,
        (from, edge.edge, earlier.0, step.0, earlier.1, step.1, edge.one, edge.target ∙ to, refl),
        omega (arith, sum, first, second),
      )

  function_no_greater : (x y : ℕ) → HasBound code (suc left) entry s x → HasBound code (suc left) entry t y → x ≤ y
  function_no_greater x y p q =
      let m = p.met in
      let path = path_more m.0 m.2 m.1 m.4 in
      let last = takes_more m.1 m.3 m.5 in
      let most = q.enough m.0 m.1 path.0 last.0 path.1 last.1 in
      let sum = m.6 in
      let first = path.2 in
      let second = last.2 in
      omega (arith, most, sum, first, second)

pub bounds_no_greater : (code : List Insn) → AllByRecursion IsInsn code → ((slot : ℕ) → structure_fault code slot ≡ None) → (left : ℕ) → left ≤ frames → BoundsNoGreater code left
bounds_no_greater code code_fits structure zero few entry s t enters x y p q = omega (arith, p, q)
bounds_no_greater code code_fits structure (suc left) few entry s t enters x y p q =
    function_no_greater code code_fits structure left entry (omega arith) s t enters (bounds_no_greater code code_fits structure left (omega arith)) x y p q
