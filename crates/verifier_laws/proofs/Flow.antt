-- The states of a function that is entered in a sharper state are sharper, at its slots and at its exits, where its visits
-- have no fault.
use Rattle.std.proofs.Common.{◌≡◌, ℕ, zero, suc, ◌+◌, ◌-◌, ◌<◌, ◌≤◌, Bool, true, false, ◌&&◌, cond, eqb, leb, List, [], ◌∷◌, ◌++◌, length, map, filter, Option, Some, None, refl, sym, ap, subst, ◌∙◌, arith, inl, inr}
use Rattle.std.specs.List.{AllByRecursion}
use Rattle.std.specs.Option.{is_some, option_map}
use Rattle.std.proofs.lemmas.Bool.{eq-eqb, eqb-true, and_parts}
use Rattle.bpf_num.specs.declared.jump.Test as tests
use Rattle.bpf_num.specs.Bind.{◌>>=◌}
use Rattle.bpf_decode.specs.declared.insn.Insn.{Insn}
use Rattle.bpf_decode.specs.declared.insn.Insn.TheVariants.{Alu, Swap, LoadImm, Load, StoreImm, Store, Jump, JumpLong, Test, CallHelper, CallLocal, Exit}
use Rattle.bpf_decode.specs.declared.insn.Source.{Source}
use Rattle.bpf_decode.specs.declared.insn.Source.TheVariants as source
use Rattle.bpf_decode.specs.Encoding.{IsInsn}
use Rattle.reg_ranges.specs.Ranges.{Range, single}
use Rattle.bpf_model.specs.declared.fault.VerifyFault.TheVariants.{UninitRegister, BadAccess, UninitBytes, CallDepth}
use Rattle.bpf_model.specs.Code.{insns_by_slot, insn_at, target_of}
use Rattle.bpf_model.specs.Machine.{frames}
use Rattle.bpf_model.specs.Step.{tested_immediate}
use Rattle.bpf_model.specs.AbstractState.{AbstractState, Edge, edge, edge_if, join_all, has_operands, has_accesses, has_bytes, source_operands, has_all, tested_range, after_test, after_call, edges, IsOneOf}
use Rattle.bpf_model.specs.Dataflow.{Activation, activation, called, is_exit, entered, behind, edges_of, flows_to, incoming, state_at, edges_at, exit_of, exits_below, exits}
use Rattle.bpf_model.specs.Verdict.{calls_local, insn_dataflow_fault, visits_of_callee, visits_below, visits_in}
use Rattle.bpf_model.proofs.Options.{some_is, map_some, no_fault_of_four, IsOneOf-left, IsOneOf-right}
use Rattle.bpf_model.proofs.Slots.{insn_at_less, insn_fits}
use Rattle.bpf_model.proofs.Soundness.{IsWellFormed}
use Rattle.bpf_model.proofs.Visits.{AllRight, right_at, visits_here}
use Rattle.bpf_model.proofs.WellFormedness.{well_formed_at, entry_well_formed}
use Rattle.verifier_laws.proofs.Unfollowed.{FollowsNone, none_at, entry_none}
use Rattle.verifier_laws.proofs.States.{IsSharper, IsSharperThanOne, join_all_sharper, entry_sharper, call_sharper, test_sharper}
use Rattle.verifier_laws.proofs.Checks.{insn_sharper}

-- ---- edges

-- an edge to the same slot as one of these, with a sharper state
pub record HasEdge (fs : List Edge) (e : Edge) : Type 0 where
  pub edge : Edge
  pub one : IsOneOf edge fs
  pub target : edge.target ≡ e.target
  pub sharper : IsSharper e.state edge.state

abbrev pub EdgesSharper : List Edge → List Edge → Type 0
EdgesSharper es fs = AllByRecursion (HasEdge fs) es

in_more : (fs gs : List Edge) (e : Edge) → HasEdge fs e → HasEdge (fs ++ gs) e
in_more fs gs e h = record {
  edge = h.edge;
  one = IsOneOf-left h.edge fs gs h.one;
  target = h.target;
  sharper = h.sharper;
}

in_later : (fs gs : List Edge) (e : Edge) → HasEdge gs e → HasEdge (fs ++ gs) e
in_later fs gs e h = record {
  edge = h.edge;
  one = IsOneOf-right h.edge fs gs h.one;
  target = h.target;
  sharper = h.sharper;
}

edges_append : (ds es fs gs : List Edge) → EdgesSharper ds fs → EdgesSharper es gs → EdgesSharper (ds ++ es) (fs ++ gs)
edges_append [] es fs gs p q = later es q where
  later : (es : List Edge) → EdgesSharper es gs → EdgesSharper es (fs ++ gs)
  later [] all = tt
  later (e ∷ es) all = (in_later fs gs e all.0, later es all.1)
edges_append (d ∷ ds) es fs gs p q = (in_more fs gs d p.0, edges_append ds es fs gs p.1 q)

one_edge : (target : ℕ) (s t : AbstractState) → IsSharper s t → EdgesSharper (edge target s ∷ []) (edge target t ∷ [])
one_edge target s t p = (record { edge = edge target t; one = inl refl; target = refl; sharper = p }, tt)

if_sharper : (target : Option ℕ) (o u : Option AbstractState) → ((s : AbstractState) → o ≡ Some s → (t : AbstractState) × (u ≡ Some t) × IsSharper s t) → EdgesSharper (edge_if target o) (edge_if target u)
if_sharper None o u all = tt
if_sharper (Some target) None u all = tt
if_sharper (Some target) (Some s) u all =
    let t = all s refl in
    subst (λ (v : Option AbstractState). EdgesSharper (edge target s ∷ []) (edge_if (Some target) v)) (sym t.1) (one_edge target s t.0 t.2)

-- the state behind a call of a function
abbrev pub BehindSharper : (ℕ → AbstractState → Option AbstractState) → (ℕ → AbstractState → Option AbstractState) → AbstractState → AbstractState → Option ℕ → Type 0
BehindSharper a b s t None = Unit {0}
BehindSharper a b s t (Some target) =
    (x : AbstractState) → a target s ≡ Some x → (y : AbstractState) × (b target t ≡ Some y) × IsSharper x y

called_sharper : (a b : ℕ → AbstractState → Option AbstractState) (s t : AbstractState) (o : Option ℕ) → BehindSharper a b s t o → (x : AbstractState) → (o >>= λ target. a target s) ≡ Some x → (y : AbstractState) × ((o >>= λ target. b target t) ≡ Some y) × IsSharper x y
called_sharper a b s t None keeps x e = absurd cc
called_sharper a b s t (Some target) keeps x e = keeps x e

itself_sharper : (s t : AbstractState) → IsSharper s t → (x : AbstractState) → Some s ≡ Some x → (y : AbstractState) × (Some t ≡ Some y) × IsSharper x y
itself_sharper s t p x e = (t, refl, subst (λ (z : AbstractState). IsSharper z t) (some_is s x e) p)

some_of : (o : Option Range) → is_some o ≡ true → (x : Range) × (o ≡ Some x)
some_of None e = absurd cc
some_of (Some x) e = (x, refl)

-- what a test compares with
compared : (t : AbstractState) (narrow : Bool) (src : Source) → has_all t.ranges (source_operands src) ≡ true → (b : Range) × (tested_range t narrow src ≡ Some b)
compared t narrow (source.Imm value) has = (single (tested_immediate narrow value), refl)
compared t narrow (source.Reg reg) has =
    some_of (t.ranges reg.number) (and_parts (is_some (t.ranges reg.number)) true has).0

module _ (s t : AbstractState) (p : IsSharper s t) (fits : IsWellFormed t) (none : FollowsNone t) where
  after_test_sharper : (narrow : Bool) (test : tests.Test) (d : ℕ) (src : Source) → has_all t.ranges (d ∷ source_operands src) ≡ true → (taken : Bool) (x : AbstractState) → after_test s narrow test d src taken ≡ Some x → (y : AbstractState) × (after_test t narrow test d src taken ≡ Some y) × IsSharper x y
  after_test_sharper narrow test d src has taken x e =
      let both = and_parts (is_some (t.ranges d)) (has_all t.ranges (source_operands src)) has in
      let a = some_of (t.ranges d) both.0 in
      let b = compared t narrow src both.1 in
      test_sharper s t p fits narrow test d src taken b.0 a.0 b.1 a.1 x e

  edges_sharper : (a b : ℕ → AbstractState → Option AbstractState) (slot : ℕ) (x : Insn) → IsInsn x → has_operands t x ≡ true → BehindSharper a b s t (called slot x) → EdgesSharper (edges a slot s x) (edges b slot t x)
  edges_sharper a b slot (Alu width op dst src) is has keeps =
      one_edge _ _ _ (insn_sharper s t p fits (Alu width op dst src) is none has)
  edges_sharper a b slot (Swap kind width dst) is has keeps =
      one_edge _ _ _ (insn_sharper s t p fits (Swap kind width dst) is none has)
  edges_sharper a b slot (LoadImm dst value) is has keeps =
      one_edge _ _ _ (insn_sharper s t p fits (LoadImm dst value) is none has)
  edges_sharper a b slot (Load size signed dst base offset) is has keeps =
      one_edge _ _ _ (insn_sharper s t p fits (Load size signed dst base offset) is none has)
  edges_sharper a b slot (StoreImm size base offset imm) is has keeps =
      one_edge _ _ _ (insn_sharper s t p fits (StoreImm size base offset imm) is none has)
  edges_sharper a b slot (Store size base offset src) is has keeps =
      one_edge _ _ _ (insn_sharper s t p fits (Store size base offset src) is none has)
  edges_sharper a b slot (Jump offset) is has keeps =
      if_sharper (target_of slot offset) (Some s) (Some t) (itself_sharper s t p)
  edges_sharper a b slot (JumpLong offset) is has keeps =
      if_sharper (target_of slot offset) (Some s) (Some t) (itself_sharper s t p)
  edges_sharper a b slot (Test narrow test dst src offset) is has keeps =
      edges_append (edge_if (Some (slot + 1)) (after_test s narrow test dst.number src false)) (edge_if (target_of slot offset) (after_test s narrow test dst.number src true)) (edge_if (Some (slot + 1)) (after_test t narrow test dst.number src false)) (edge_if (target_of slot offset) (after_test t narrow test dst.number src true)) (if_sharper (Some (slot + 1)) (after_test s narrow test dst.number src false) (after_test t narrow test dst.number src false) (after_test_sharper narrow test dst.number src has false)) (if_sharper (target_of slot offset) (after_test s narrow test dst.number src true) (after_test t narrow test dst.number src true) (after_test_sharper narrow test dst.number src has true))
  edges_sharper a b slot (CallHelper number) is has keeps =
      one_edge _ _ _ (insn_sharper s t p fits (CallHelper number) is none has)
  edges_sharper a b slot (CallLocal offset) is has keeps =
      if_sharper (Some (slot + 1)) (target_of slot offset >>= λ target. a target s) (target_of slot offset >>= λ target. b target t) (called_sharper a b s t (target_of slot offset) keeps)
  edges_sharper a b slot Exit is has keeps = tt

-- ---- the states that flow to a slot

flows_to_one : (u : ℕ) (e : Edge) (es : List Edge) → IsOneOf e es → e.target ≡ u → IsOneOf e.state (flows_to u es)
flows_to_one u e [] h same = absurd h
flows_to_one u e (d ∷ es) (inl is) same =
    let here : eqb d.target u ≡ true = eq-eqb d.target u (ap (λ (x : Edge). x.target) (sym is) ∙ same) in
    rw here (inl (ap (λ (x : Edge). x.state) is))
flows_to_one u e (d ∷ es) (inr h) same =
    let later = flows_to_one u e es h same in
    elim (eqb d.target u) as (λ (b : Bool). IsOneOf e.state (map (λ (x : Edge). x.state) (cond b (d ∷ filter (λ (x : Edge). eqb x.target u) es) (filter (λ (x : Edge). eqb x.target u) es)))) [
      | true ↦ inr later
      | false ↦ later
    ]

abbrev pub StatesSharper : List AbstractState → List AbstractState → Type 0
StatesSharper ss ts = AllByRecursion (IsSharperThanOne ts) ss

flows_sharper : (u : ℕ) (es fs : List Edge) → EdgesSharper es fs → StatesSharper (flows_to u es) (flows_to u fs)
flows_sharper u [] fs all = tt
flows_sharper u (e ∷ es) fs all = cases (flows_sharper u es fs all.1) (eqb e.target u) refl where
  cases : StatesSharper (flows_to u es) (flows_to u fs) → (b : Bool) → eqb e.target u ≡ b → StatesSharper (map (λ (x : Edge). x.state) (cond b (e ∷ filter (λ (x : Edge). eqb x.target u) es) (filter (λ (x : Edge). eqb x.target u) es))) (flows_to u fs)
  cases later true h =
      let first = all.0 in (
        (first.edge.state, flows_to_one u first.edge fs first.one (first.target ∙ eqb-true e.target u h), first.sharper),
        later,
      )
  cases later false h = later

states_append : (rs ss ts us : List AbstractState) → StatesSharper rs ts → StatesSharper ss us → StatesSharper (rs ++ ss) (ts ++ us)
states_append [] ss ts us p q = later ss q where
  later : (ss : List AbstractState) → StatesSharper ss us → StatesSharper ss (ts ++ us)
  later [] all = tt
  later (s ∷ ss) all = let h = all.0 in ((h.0, IsOneOf-right h.0 ts us h.1, h.2), later ss all.1)
states_append (r ∷ rs) ss ts us p q =
    let h = p.0 in ((h.0, IsOneOf-left h.0 ts us h.1, h.2), states_append rs ss ts us p.1 q)

first_sharper : (b : Bool) (s t : AbstractState) → IsSharper s t → StatesSharper (cond b (s ∷ []) []) (cond b (t ∷ []) [])
first_sharper true s t p = ((t, inl refl, p), tt)
first_sharper false s t p = tt

-- ---- functions

-- a function is entered at a slot, with so many frames left for it and those that it calls, in a state in which no visit
-- has a fault, and in a sharper one
pub record Enters (code : List Insn) (left entry : ℕ) (s t : AbstractState) : Type 0 where
  pub sharper : IsSharper s t
  pub fits : 0 < left → IsWellFormed t
  pub none : FollowsNone t
  pub right : AllRight (visits_in code left entry t)

-- its exits
abbrev pub ExitsSharper : List Insn → ℕ → Type 0
ExitsSharper code left =
    (entry : ℕ) (s t : AbstractState) → Enters code left entry s t → StatesSharper (exits code left entry s) (exits code left entry t)

-- what holds at a slot that is visited
pub record At (code : List Insn) (left : ℕ) (b : Activation) (slot : ℕ) (y : AbstractState) (x : Insn) : Type 0 where
  pub fits : IsWellFormed y
  pub none : FollowsNone y
  pub insn : IsInsn x
  pub passes : insn_dataflow_fault b.depth y x ≡ None
  pub right : AllRight (visits_of_callee b (visits_in code left) y (called slot x))

module _ (code : List Insn) (code_fits : AllByRecursion IsInsn code) (left entry : ℕ) (shallow : left < frames) (s t : AbstractState) (enters : Enters code (suc left) entry s t) where
  pub at_slot : (slot : ℕ) (y : AbstractState) (x : Insn) → state_at code (activation left (exits code left) entry t) slot ≡ Some y → insn_at code slot ≡ Some x → At code left (activation left (exits code left) entry t) slot y x
  at_slot slot y x known is =
      let b = activation left (exits code left) entry t in
      let all : AllRight (visits_below code (activation left (exits code left) entry t) (visits_in code left) (length (insns_by_slot code))) = enters.right in
      let here = right_at code (activation left (exits code left) entry t) (visits_in code left) slot (length (insns_by_slot code)) all (insn_at_less code slot x is) in
      let visit = subst AllRight (visits_here code (activation left (exits code left) entry t) (visits_in code left) slot y x known is) here in
      record {
        fits = well_formed_at code code_fits left entry t shallow (enters.fits (omega arith)) slot y known;
        none = none_at code left entry t enters.none slot y known;
        insn = insn_fits code slot x code_fits is;
        passes = visit.0;
        right = visit.1;
      }

  -- a function that is called there
  pub callee_enters : (x y : AbstractState) → IsSharper x y → IsWellFormed y → FollowsNone y → (target : ℕ) → AllRight (visits_in code left target (entered (activation left (exits code left) entry t) y)) → Enters code left target (entered (activation left (exits code left) entry s) x) (entered (activation left (exits code left) entry t) y)
  callee_enters x y p fits none target right = record {
    sharper = entry_sharper x y p fits (frames - 1 - left + 1);
    fits = λ some. entry_well_formed (frames - 1 - left + 1) y (omega arith) fits;
    none = entry_none (frames - 1 - left + 1) y none;
    right = right;
  }

module _ (code : List Insn) (code_fits : AllByRecursion IsInsn code) (left entry : ℕ) (shallow : left < frames) (s t : AbstractState) (enters : Enters code (suc left) entry s t) (deeper : ExitsSharper code left) where
  behind_sharper : (x y : AbstractState) → IsSharper x y → IsWellFormed y → FollowsNone y → (o : Option ℕ) → AllRight (visits_of_callee (activation left (exits code left) entry t) (visits_in code left) y o) → BehindSharper (behind (activation left (exits code left) entry s)) (behind (activation left (exits code left) entry t)) x y o
  behind_sharper x y p fits none None right = tt
  behind_sharper x y p fits none (Some target) right = λ z e.
      let j = map_some (after_call (frames - 1 - left + 1) x) (join_all (exits code left target (entered (activation left (exits code left) entry s) x))) z e in
      let k = join_all_sharper (exits code left target (entered (activation left (exits code left) entry s) x)) (exits code left target (entered (activation left (exits code left) entry t) y)) j.0 (deeper target (entered (activation left (exits code left) entry s) x) (entered (activation left (exits code left) entry t) y) (callee_enters code code_fits left entry shallow s t enters x y p fits none target right)) j.1 in (
        after_call (frames - 1 - left + 1) y k.0,
        ap (option_map (after_call (frames - 1 - left + 1) y)) k.1,
        subst (λ (v : AbstractState). IsSharper v (after_call (frames - 1 - left + 1) y k.0)) j.2 (call_sharper x y p fits (frames - 1 - left + 1) j.0 k.0 k.2),
      )

  -- a state of the one function has a less sharp one of the other
  abbrev Known : ℕ → Type 0
  Known slot =
      (x : AbstractState) → state_at code (activation left (exits code left) entry s) slot ≡ Some x → (y : AbstractState) × (state_at code (activation left (exits code left) entry t) slot ≡ Some y) × IsSharper x y

  edges_from : (slot : ℕ) → Known slot → EdgesSharper (edges_at code (activation left (exits code left) entry s) slot) (edges_at code (activation left (exits code left) entry t) slot)
  edges_from slot known = of (state_at code (activation left (exits code left) entry s) slot) (insn_at code slot) refl refl where
    of : (o : Option AbstractState) (i : Option Insn) → state_at code (activation left (exits code left) entry s) slot ≡ o → insn_at code slot ≡ i → EdgesSharper (edges_of (activation left (exits code left) entry s) slot o i) (edges_at code (activation left (exits code left) entry t) slot)
    of None i e f = tt
    of (Some x) None e f = tt
    of (Some x) (Some i) e f =
        let y = known x e in
        let here = at_slot code code_fits left entry shallow s t enters slot y.0 i y.1 f in
        let has = no_fault_of_four (has_operands y.0 i) (has_accesses (frames - 1 - left) y.0 i) (has_bytes y.0 i) (calls_local i && leb frames (frames - 1 - left + 1)) UninitRegister BadAccess UninitBytes CallDepth here.passes in
        let there : edges_at code (activation left (exits code left) entry t) slot ≡ edges (behind (activation left (exits code left) entry t)) slot y.0 i = ap (λ (o : Option AbstractState). edges_of (activation left (exits code left) entry t) slot o (insn_at code slot)) y.1 ∙ ap (edges_of (activation left (exits code left) entry t) slot (Some y.0)) f in
        subst (EdgesSharper (edges (behind (activation left (exits code left) entry s)) slot x i)) (sym there) (edges_sharper x y.0 y.2 here.fits here.none (behind (activation left (exits code left) entry s)) (behind (activation left (exits code left) entry t)) slot i here.insn has.0 (behind_sharper x y.0 y.2 here.fits here.none (called slot i) here.right))

  incoming_sharper : (n u : ℕ) → StatesSharper (incoming code (activation left (exits code left) entry s) n u) (incoming code (activation left (exits code left) entry t) n u)
  incoming_sharper zero u = first_sharper (eqb u entry) s t enters.sharper
  incoming_sharper (suc n) u =
      let all : Known n = λ x e. join_all_sharper (incoming code (activation left (exits code left) entry s) n n) (incoming code (activation left (exits code left) entry t) n n) x (incoming_sharper n n) e in
      states_append (incoming code (activation left (exits code left) entry s) n u) (flows_to u (edges_at code (activation left (exits code left) entry s) n)) (incoming code (activation left (exits code left) entry t) n u) (flows_to u (edges_at code (activation left (exits code left) entry t) n)) (incoming_sharper n u) (flows_sharper u (edges_at code (activation left (exits code left) entry s) n) (edges_at code (activation left (exits code left) entry t) n) (edges_from n all))

  state_known : (slot : ℕ) → Known slot
  state_known slot x e =
      join_all_sharper (incoming code (activation left (exits code left) entry s) slot slot) (incoming code (activation left (exits code left) entry t) slot slot) x (incoming_sharper slot slot) e

  exit_sharper : (slot : ℕ) (o : Option AbstractState) (i : Option Insn) → state_at code (activation left (exits code left) entry s) slot ≡ o → StatesSharper (exit_of o i) (exit_of (state_at code (activation left (exits code left) entry t) slot) i)
  exit_sharper slot None i e = tt
  exit_sharper slot (Some x) None e = tt
  exit_sharper slot (Some x) (Some i) e =
      let y = state_known slot x e in
      subst (λ (o : Option AbstractState). StatesSharper (cond (is_exit i) (x ∷ []) []) (exit_of o (Some i))) (sym y.1) (first_sharper (is_exit i) x y.0 y.2)

  exits_below_sharper : (n : ℕ) → StatesSharper (exits_below code (activation left (exits code left) entry s) n) (exits_below code (activation left (exits code left) entry t) n)
  exits_below_sharper zero = tt
  exits_below_sharper (suc n) =
      states_append (exits_below code (activation left (exits code left) entry s) n) (exit_of (state_at code (activation left (exits code left) entry s) n) (insn_at code n)) (exits_below code (activation left (exits code left) entry t) n) (exit_of (state_at code (activation left (exits code left) entry t) n) (insn_at code n)) (exits_below_sharper n) (exit_sharper n (state_at code (activation left (exits code left) entry s) n) (insn_at code n) refl)

exits_sharper : (code : List Insn) → AllByRecursion IsInsn code → (left : ℕ) → left ≤ frames → ExitsSharper code left
exits_sharper code code_fits zero few entry s t enters = tt
exits_sharper code code_fits (suc left) few entry s t enters =
    exits_below_sharper code code_fits left entry (omega arith) s t enters (exits_sharper code code_fits left (omega arith)) (length (insns_by_slot code))

module _ (code : List Insn) (code_fits : AllByRecursion IsInsn code) (left entry : ℕ) (shallow : left < frames) (s t : AbstractState) (enters : Enters code (suc left) entry s t) where
  -- the state at a slot
  pub state_sharper : (slot : ℕ) (x : AbstractState) → state_at code (activation left (exits code left) entry s) slot ≡ Some x → (y : AbstractState) × (state_at code (activation left (exits code left) entry t) slot ≡ Some y) × IsSharper x y
  state_sharper slot x e =
      state_known code code_fits left entry shallow s t enters (exits_sharper code code_fits left (omega arith)) slot x e

  -- the edges out of it
  pub edges_at_sharper : (slot : ℕ) → EdgesSharper (edges_at code (activation left (exits code left) entry s) slot) (edges_at code (activation left (exits code left) entry t) slot)
  edges_at_sharper slot =
      edges_from code code_fits left entry shallow s t enters (exits_sharper code code_fits left (omega arith)) slot (state_sharper slot)
