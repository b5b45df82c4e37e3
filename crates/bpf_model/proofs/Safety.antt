-- Accepted code is safe. In a function, each machine that is reached is at a slot that a path leads to, and the slot's
-- abstract state is true of it; a function that is called returns within its bound.
use Rattle.std.proofs.Common.{◌≡◌, ◌⊎◌, ℕ, zero, suc, ◌+◌, ◌<◌, ◌≤◌, Bool, true, false, ◌&&◌, ltb, ◌-◌, List, [], ◌∷◌, ◌++◌, length, Option, Some, None, ℤ, refl, sym, ap, subst, ◌∙◌, arith, inl, inr}
use Rattle.std.specs.Prelude.{IsSome, nat_le, option_and_then}
use Rattle.std.specs.List.{list_all, AllByRecursion}
use Rattle.std.specs.Option.{is_some, is_none, option_map}
use Rattle.std.specs.FinMap as finite
use Rattle.std.proofs.lemmas.Bool.{cases_lt, leb-false, lt-ltb}
use Rattle.bpf_num.specs.Jump.{jump_test_of}
use Rattle.bpf_num.specs.declared.jump.Test as tests
use Rattle.bpf_decode.specs.declared.insn.Insn.{Insn}
use Rattle.bpf_decode.specs.declared.insn.Insn.TheVariants.{Alu, Swap, LoadImm, Load, StoreImm, Store, Jump, JumpLong, Test, CallHelper, CallLocal, Exit}
use Rattle.bpf_decode.specs.declared.insn.Reg.{Reg}
use Rattle.bpf_decode.specs.declared.insn.Source.{Source}
use Rattle.bpf_decode.specs.Faults.{IsCode}
use Rattle.bpf_decode.specs.Encoding.{IsInsn}
use Rattle.bpf_num.specs.Bind.{◌>>=◌}
use Rattle.reg_ranges.specs.Ranges.{Range}
use Rattle.bpf_model.specs.Code.{slots_of, insns_by_slot, insn_at, target_of}
use Rattle.bpf_model.specs.Machine.{Machine, Frame, Call, IsCall, start, frames}
use Rattle.bpf_model.specs.declared.fault.VerifyFault.TheVariants.{UninitRegister, BadAccess, UninitBytes, CallDepth}
use Rattle.map_helpers.specs.declared.helper.Helper.{Helper}
use Rattle.map_helpers.specs.Helpers.{helper_of, writes, max_answer}
use Rattle.bpf_model.specs.Step.{Continues, Ends, tested_value, branches, effect, step}
use Rattle.bpf_model.specs.Run.{Run, Ending, EndsSo, IsSafe}
use Rattle.bpf_model.specs.AbstractState.{AbstractState, Edge, edge, start_state, after_call, join_all, has_operands, has_accesses, has_bytes, helper_operands, helper_reads, helper_writes, helper_max_answer, all_in_bounds, are_initialized, edge_if, edges, after_helper, after_insn, after_test, IsOneOf}
use Rattle.bpf_model.specs.Dataflow.{Activation, activation, called, entered, behind, edges_of, state_at, edges_at, exits, TakesIn, Takes, Path, HasBound}
use Rattle.bpf_model.specs.Verdict.{structure_fault, IsAccepted, calls_local, visits_of_callee, visits_in}
use Rattle.bpf_model.specs.declared.profile.Profile.{Profile}
use Rattle.bpf_model.proofs.Options.{some_is, is_some_of, and_true, no_fault_of_four, IsOneOf-left, IsOneOf-right}
use Rattle.bpf_model.proofs.Slots.{insn_at_less, first_at, few, insn_fits}
use Rattle.bpf_model.proofs.Edges.{BeginsAt, Stands, stands, Lands, jump_lands, edge_leads, edge_within, called_begins}
use Rattle.bpf_model.proofs.Joins.{IsBelow, IsBelow-self, arrives, enters_below, exit_below}
use Rattle.bpf_model.proofs.Memories.{HoldsBytes, stored_small}
use Rattle.bpf_model.proofs.Soundness.{Abstracts, RunsAt, IsWellFormed, IsWellFormed-start, alu_imm, test_imm, start_means, start_bytes, placed, placed_means, moved, Moves, alu_moves, swap_moves, wide_moves, load_moves, moved_means, kept, Stores, imm_stores, register_stores, kept_means, Tests, test_means, small_64}
use Rattle.bpf_model.proofs.HelperCalls.{HasMap, Answers, after, helper_answers, helper_means}
use Rattle.bpf_model.proofs.WellFormedness.{entry_well_formed, well_formed_at}
use Rattle.bpf_model.proofs.Visits.{AllRight, right_at, visits_here, all_right}
use Rattle.bpf_model.proofs.Bounds.{some_bound, bound_few}
use Rattle.bpf_model.proofs.Calls.{entered_at, entered_means, call_effect, returned_to, return_effect, bytes_without, returned_means}
use Rattle.bpf_model.proofs.Runs.{run_then, step_then, same_run, earlier, run_within}

-- ---- one instruction

-- r0 at an exit
result_is : (m : Machine) (state : AbstractState) → Abstracts state m → has_operands state Exit ≡ true → (value : ℕ) × (finite.get m.frame.registers 0 ≡ Some value)
result_is m state means h =
    let known = some_known (state.ranges 0) (and_true _ _ h).0 in
    let a = means.ranges 0 known.0 known.1 in
    (a.value, a.is) where
      some_known : (o : Option Range) → is_some o ≡ true → (x : Range) × (o ≡ Some x)
      some_known None e = absurd cc
      some_known (Some x) e = (x, refl)

end_effect : (m : Machine) (a : ℕ) → finite.get m.frame.registers 0 ≡ Some a → m.callers ≡ [] → effect m Exit ≡ Some (Ends a)
end_effect m a a-is alone = rw (a-is, alone) refl

-- ---- a machine in a function

-- what holds of a machine in a function that runs
pub record Running (code : List Insn) (a : Activation) (m : Machine) : Type 0 where
  runs : RunsAt a.depth m
  map : HasMap m
  bytes : HoldsBytes m.memory
  known : AbstractState
  known_is : state_at code a m.frame.pc ≡ Some known
  means : Abstracts known m
  insn : Insn
  insn_is : insn_at code m.frame.pc ≡ Some insn

-- what a visit's having no fault says
record IsRight (code : List Insn) (d pc : ℕ) (state : AbstractState) (x : Insn) : Type 0 where
  operands : has_operands state x ≡ true
  inside : has_accesses d state x ≡ true
  there : has_bytes state x ≡ true
  frame : (calls_local x && nat_le frames (d + 1)) ≡ false
  stands : Stands code pc x

if_one : (t : ℕ) (s : AbstractState) (target : Option ℕ) (o : Option AbstractState) → target ≡ Some t → o ≡ Some s → IsOneOf (edge t s) (edge_if target o)
if_one t s None o te oe = absurd cc
if_one t s (Some u) None te oe = absurd cc
if_one t s (Some u) (Some r) te oe = inl (ap (λ (k : ℕ). edge k s) (sym (some_is u t te)) ∙ ap (λ (k : AbstractState). edge u k) (sym (some_is r s oe)))

-- a step within a function
record Goes (code : List Insn) (a : Activation) (m : Machine) (x : Insn) : Type 0 where
  next : Machine
  step_is : step code m ≡ Some (Continues next)
  running : Running code a next
  edge : Edge
  one_of : IsOneOf edge (edges_at code a m.frame.pc)
  target : edge.target ≡ next.frame.pc
  callers : next.callers ≡ m.callers
  own : called m.frame.pc x ≡ None

-- from here so many steps lead to an exit of the function; with those before, and the exit, at most the bound
record Returns (code : List Insn) (a : Activation) (m : Machine) (before bound : ℕ) : Type 0 where
  steps : ℕ
  last : Machine
  run : Run code m steps last
  running : Running code a last
  exits_here : running.insn ≡ Exit
  value : ℕ
  value_is : finite.get last.frame.registers 0 ≡ Some value
  callers : last.callers ≡ m.callers
  few : before + steps + 1 ≤ bound

-- where so many frames are left, each function that is entered with what its visits know returns
abbrev Functions : List Insn → ℕ → Type 0
Functions code left =
    (target : ℕ) (state : AbstractState) (bound : ℕ) → AllRight (visits_in code (suc left) target state) → IsWellFormed state → HasBound code (suc left) target state bound → BeginsAt code target → (m : Machine) → m.frame.pc ≡ target → Abstracts state m → RunsAt (frames - 1 - left) m → HasMap m → HoldsBytes m.memory → Returns code (activation left (exits code left) target state) m 0 bound

one_less : (n : ℕ) → 0 < n → (k : ℕ) × (n ≡ suc k)
one_less zero h = absurd (omega (arith, h))
one_less (suc k) h = (k, refl)

call_lands : (code : List Insn) (o : Option ℕ) → is_none (option_and_then (insn_at code) o) ≡ false → (t : ℕ) × (o ≡ Some t)
call_lands code None e = absurd cc
call_lands code (Some t) e = (t, refl)

one_deeper : (code : List Insn) (left : ℕ) → Functions code left → (l : ℕ) → suc left ≡ suc l → Functions code l
one_deeper code left f l e = let same : left ≡ l = omega (arith, e) in subst (Functions code) same f

-- a function that is entered, none of whose visits has a fault
module _ (code : List Insn) (code_fits : AllByRecursion IsInsn code) (structure : (slot : ℕ) → structure_fault code slot ≡ None) (left entry : ℕ) (entered_in : AbstractState) (shallow : left < frames) (state_fits : IsWellFormed entered_in) (visits_right : AllRight (visits_in code (suc left) entry entered_in)) where
  abbrev a : Activation
  a = activation left (exits code left) entry entered_in

  -- the instruction has no fault
  right : (pc : ℕ) (state : AbstractState) (x : Insn) → state_at code a pc ≡ Some state → insn_at code pc ≡ Some x → IsRight code a.depth pc state x
  right pc state x known is =
      let all = right_at code a (visits_in code left) pc (length (insns_by_slot code)) visits_right (insn_at_less code pc x is) in
      let reads = (subst AllRight (visits_here code a (visits_in code left) pc state x known is) all).0 in
      let sees = no_fault_of_four (has_operands state x) (has_accesses a.depth state x) (has_bytes state x) (calls_local x && nat_le frames (a.depth + 1)) UninitRegister BadAccess UninitBytes CallDepth reads in
      record { operands = sees.0; inside = sees.1; there = sees.2; frame = sees.3; stands = stands code pc x (structure pc) is }

  -- the visits of the callee at a local call
  callee_right : (pc t : ℕ) (state : AbstractState) (x : Insn) → state_at code a pc ≡ Some state → insn_at code pc ≡ Some x → called pc x ≡ Some t → AllRight (visits_in code left t (entered a state))
  callee_right pc t state x known is call =
      let all = right_at code a (visits_in code left) pc (length (insns_by_slot code)) visits_right (insn_at_less code pc x is) in
      let rest = (subst AllRight (visits_here code a (visits_in code left) pc state x known is) all).1 in
      subst (λ (o : Option ℕ). AllRight (visits_of_callee a (visits_in code left) state o)) call rest

  -- a step within the function, an exit, or a call
  abbrev Progresses : Machine → Insn → Type 0
  Progresses m x = Goes code a m x ⊎ (x ≡ Exit) ⊎ ((offset : ℤ) × (x ≡ CallLocal offset))

  -- on over an edge out of an instruction
  along : (m next : Machine) (x : Insn) (e : Edge) → (at : Running code a m) → at.insn ≡ x → IsOneOf e (edges (behind a) m.frame.pc at.known x) → called m.frame.pc x ≡ None → effect m x ≡ Some (Continues next) → next.frame.pc ≡ e.target → next.callers ≡ m.callers → HasMap next → HoldsBytes next.memory → ((j : AbstractState) → IsBelow j e.state → Abstracts j next) → Progresses m x
  along m next x e at x-is one own does pc-is callers-are has_map small means =
      let is : insn_at code m.frame.pc ≡ Some x = at.insn_is ∙ ap Some x-is in
      let ok = right m.frame.pc at.known x at.known_is is in
      let leads = edge_leads (behind a) code m.frame.pc at.known x e is ok.stands one in
      let edges-are : edges_at code a m.frame.pc ≡ edges (behind a) m.frame.pc at.known x = ap (λ (o : Option AbstractState). edges_of a m.frame.pc o (insn_at code m.frame.pc)) at.known_is ∙ ap (edges_of a m.frame.pc (Some at.known)) is in
      let one_of : IsOneOf e (edges_at code a m.frame.pc) = subst (λ (es : List Edge). IsOneOf e es) (sym edges-are) one in
      let j = arrives code a m.frame.pc e one_of leads.later in
      let there = leads.begins in
      inl (record {
        next = next;
        step_is = ap (λ (o : Option Insn). o >>= λ (i : Insn). effect m i) is ∙ does;
        running = record {
          runs = record { depth = ap length callers-are ∙ at.runs.depth; has_frame = at.runs.has_frame };
          map = has_map;
          bytes = small;
          known = j.0;
          known_is = ap (state_at code a) pc-is ∙ j.1;
          means = means j.0 j.2;
          insn = there.0;
          insn_is = ap (insn_at code) pc-is ∙ there.1;
        };
        edge = e;
        one_of = one_of;
        target = sym pc-is;
        callers = callers-are;
        own = own;
      })

  -- an instruction that writes a register leads on
  moves_on : (m : Machine) (x : Insn) (dst : ℕ) → (at : Running code a m) → at.insn ≡ x → edges (behind a) m.frame.pc at.known x ≡ edge (m.frame.pc + slots_of x) (after_insn at.known x) ∷ [] → called m.frame.pc x ≡ None → Moves at.known m x dst → Progresses m x
  moves_on m x dst at x-is edges-are own moves =
      let e : Edge = edge (m.frame.pc + slots_of x) (after_insn at.known x) in
      along m (moved m (slots_of x) dst moves.value) x e at x-is (subst (λ (es : List Edge). IsOneOf e es) (sym edges-are) (inl refl)) own moves.goes refl refl at.map at.bytes (λ j below. moved_means at.known j m (slots_of x) dst moves.value moves.range at.means moves.in_range (subst (λ (s : AbstractState). IsBelow j s) moves.after_is below))

  -- so does one that stores bytes
  stores_on : (m : Machine) (x : Insn) → (at : Running code a m) → at.insn ≡ x → edges (behind a) m.frame.pc at.known x ≡ edge (m.frame.pc + slots_of x) (after_insn at.known x) ∷ [] → called m.frame.pc x ≡ None → Stores at.known m x → Progresses m x
  stores_on m x at x-is edges-are own stores =
      let e : Edge = edge (m.frame.pc + slots_of x) (after_insn at.known x) in
      along m (kept m (slots_of x) stores.address stores.bytes) x e at x-is (subst (λ (es : List Edge). IsOneOf e es) (sym edges-are) (inl refl)) own stores.goes refl refl at.map (stored_small m.memory stores.address stores.bytes at.bytes stores.small) (λ j below. kept_means at.known j m (slots_of x) stores.address stores.bytes stores.range stores.stored_is at.means stores.in_range (stored_small m.memory stores.address stores.bytes at.bytes stores.small) stores.leaves (subst (λ (s : AbstractState). IsBelow j s) stores.after_is below))

  jump_effect : (m : Machine) (offset : ℤ) (t : ℕ) → target_of m.frame.pc offset ≡ Some t → effect m (Jump offset) ≡ Some (Continues (placed m t))
  jump_effect m offset t is = rw is refl

  jump_long_effect : (m : Machine) (offset : ℤ) (t : ℕ) → target_of m.frame.pc offset ≡ Some t → effect m (JumpLong offset) ≡ Some (Continues (placed m t))
  jump_long_effect m offset t is = rw is refl

  test_effect : (m : Machine) (narrow : Bool) (test : tests.Test) (dst : Reg) (src : Source) (offset : ℤ) (x y : ℕ) (taken : Bool) → tested_value m.frame.registers narrow src ≡ Some y → finite.get m.frame.registers dst.number ≡ Some x → jump_test_of test narrow x y ≡ taken → effect m (Test narrow test dst src offset) ≡ branches m 1 offset taken
  test_effect m narrow test dst src offset x y taken y-is x-is taken-is = rw (y-is, x-is, taken-is) refl

  taken_effect : (m : Machine) (offset : ℤ) (t : ℕ) → target_of m.frame.pc offset ≡ Some t → branches m 1 offset true ≡ Some (Continues (placed m t))
  taken_effect m offset t is = rw is refl

  -- a test leads on over the edge that it takes
  tests_on : (m : Machine) (narrow : Bool) (test : tests.Test) (dst : Reg) (src : Source) (offset : ℤ) → (at : Running code a m) → at.insn ≡ Test narrow test dst src offset → (t : Tests at.known m narrow test dst.number src) → Lands code m.frame.pc offset → (taken : Bool) → jump_test_of test narrow t.a t.b ≡ taken → Progresses m (Test narrow test dst src offset)
  tests_on m narrow test dst src offset at x-is t lands true taken-is =
      let after_is : after_test at.known narrow test dst.number src true ≡ Some t.after = sym (ap (after_test at.known narrow test dst.number src) taken-is) ∙ t.after_is in
      along m (placed m lands.target) (Test narrow test dst src offset) (edge lands.target t.after) at x-is (IsOneOf-right (edge lands.target t.after) (edge_if (Some (m.frame.pc + 1)) (after_test at.known narrow test dst.number src false)) _ (if_one lands.target t.after (target_of m.frame.pc offset) (after_test at.known narrow test dst.number src true) lands.target_is after_is)) refl (test_effect m narrow test dst src offset t.a t.b true t.b_is t.a_is taken-is ∙ taken_effect m offset lands.target lands.target_is) refl refl at.map at.bytes (λ j below. placed_means t.after j m lands.target t.means below)
  tests_on m narrow test dst src offset at x-is t lands false taken-is =
      let after_is : after_test at.known narrow test dst.number src false ≡ Some t.after = sym (ap (after_test at.known narrow test dst.number src) taken-is) ∙ t.after_is in
      along m (placed m (m.frame.pc + 1)) (Test narrow test dst src offset) (edge (m.frame.pc + 1) t.after) at x-is (IsOneOf-left (edge (m.frame.pc + 1) t.after) (edge_if (Some (m.frame.pc + 1)) (after_test at.known narrow test dst.number src false)) _ (if_one (m.frame.pc + 1) t.after (Some (m.frame.pc + 1)) (after_test at.known narrow test dst.number src false) refl after_is)) refl (test_effect m narrow test dst src offset t.a t.b false t.b_is t.a_is taken-is) refl refl at.map at.bytes (λ j below. placed_means t.after j m (m.frame.pc + 1) t.means below)

  -- a helper's answer leads on
  helped : (m : Machine) (number : ℤ) (helper : Helper) → (at : Running code a m) → at.insn ≡ CallHelper number → helper_of number ≡ Some helper → Answers at.known m helper number → Progresses m (CallHelper number)
  helped m number helper at x-is is answers =
      let e : Edge = edge (m.frame.pc + slots_of (CallHelper number)) (after_insn at.known (CallHelper number)) in
      let written : after_insn at.known (CallHelper number) ≡ after_helper at.known (max_answer helper) (writes helper) = ap (λ (o : Option Helper). after_helper at.known (helper_max_answer o) (helper_writes o)) is in
      along m (after m (slots_of (CallHelper number)) answers.answer) (CallHelper number) e at x-is (inl refl) refl answers.goes refl refl (answers.entries, at.map.1) answers.bytes (λ j below. helper_means at.known j m helper number at.means answers (subst (λ (s : AbstractState). IsBelow j s) written below))

  helper_at : (m : Machine) (number : ℤ) → (at : Running code a m) → at.insn ≡ CallHelper number → (o : Option Helper) → helper_of number ≡ o → IsRight code a.depth m.frame.pc at.known (CallHelper number) → Progresses m (CallHelper number)
  helper_at m number at e None is ok = absurd (let known = sym (ap is_none is) ∙ ok.stands.helper in cc)
  helper_at m number at e (Some helper) is ok =
      let has = sym (ap (λ (o : Option Helper). list_all (λ r. is_some (at.known.ranges r)) (helper_operands o)) is) ∙ ok.operands in
      let inside = sym (ap (λ (o : Option Helper). all_in_bounds a.depth at.known.ranges (helper_reads o ++ helper_writes o)) is) ∙ ok.inside in
      let there = sym (ap (λ (o : Option Helper). are_initialized at.known.initialized at.known.ranges (helper_reads o)) is) ∙ ok.there in
      helped m number helper at e is (helper_answers at.known m a.depth number helper is at.means at.runs at.map at.bytes has inside there)

  progress_at : (m : Machine) (x : Insn) → (at : Running code a m) → at.insn ≡ x → insn_at code m.frame.pc ≡ Some x → IsRight code a.depth m.frame.pc at.known x → IsInsn x → IsWellFormed at.known → Progresses m x
  progress_at m Exit at e is ok fits fit = inr (inl refl)
  progress_at m (CallLocal offset) at e is ok fits fit = inr (inr (offset, refl))
  progress_at m (CallHelper number) at e is ok fits fit = helper_at m number at e (helper_of number) refl ok
  progress_at m (Alu width op dst src) at e is ok fits fit =
      moves_on m (Alu width op dst src) dst.number at e refl refl (alu_moves at.known m width op dst src at.means fit (alu_imm width op dst src fits) ok.operands ok.stands.r10)
  progress_at m (Swap kind width dst) at e is ok fits fit =
      moves_on m (Swap kind width dst) dst.number at e refl refl (swap_moves at.known m kind width dst at.means fit ok.operands ok.stands.r10)
  progress_at m (LoadImm dst value) at e is ok fits fit =
      moves_on m (LoadImm dst value) dst.number at e refl refl (wide_moves at.known m dst value ok.stands.r10)
  progress_at m (Load size signed dst base offset) at e is ok fits fit =
      moves_on m (Load size signed dst base offset) dst.number at e refl refl (load_moves at.known m a.depth size signed dst base offset at.means at.runs.has_frame fit at.bytes fits.1 ok.operands ok.inside ok.there ok.stands.r10)
  progress_at m (StoreImm size base offset imm) at e is ok fits fit =
      stores_on m (StoreImm size base offset imm) at e refl refl (imm_stores at.known m a.depth size base offset imm at.means fit at.runs fits.0 (small_64 imm fits.1) ok.operands ok.inside)
  progress_at m (Store size base offset src) at e is ok fits fit =
      stores_on m (Store size base offset src) at e refl refl (register_stores at.known m a.depth size base offset src at.means fit at.runs fits ok.operands ok.inside)
  progress_at m (Jump offset) at e is ok fits fit =
      let lands = jump_lands code m.frame.pc offset ok.stands.forward ok.stands.lands in
      along m (placed m lands.target) (Jump offset) (edge lands.target at.known) at e (if_one lands.target at.known (target_of m.frame.pc offset) (Some at.known) lands.target_is refl) refl (jump_effect m offset lands.target lands.target_is) refl refl at.map at.bytes (λ j below. placed_means at.known j m lands.target at.means below)
  progress_at m (JumpLong offset) at e is ok fits fit =
      let lands = jump_lands code m.frame.pc offset ok.stands.forward ok.stands.lands in
      along m (placed m lands.target) (JumpLong offset) (edge lands.target at.known) at e (if_one lands.target at.known (target_of m.frame.pc offset) (Some at.known) lands.target_is refl) refl (jump_long_effect m offset lands.target lands.target_is) refl refl at.map at.bytes (λ j below. placed_means at.known j m lands.target at.means below)
  progress_at m (Test narrow test dst src offset) at e is ok fits fit =
      let t = test_means at.known m narrow test dst.number src at.means fit (test_imm narrow test dst src offset fits) ok.operands in
      tests_on m narrow test dst src offset at e t (jump_lands code m.frame.pc offset ok.stands.forward ok.stands.lands) (jump_test_of test narrow t.a t.b) refl

  progress : (m : Machine) → (at : Running code a m) → Progresses m at.insn
  progress m at =
      progress_at m at.insn at refl at.insn_is (right m.frame.pc at.known at.insn at.known_is at.insn_is) (insn_fits code m.frame.pc at.insn code_fits at.insn_is) (well_formed_at code code_fits left entry entered_in shallow state_fits m.frame.pc at.known at.known_is)

  -- a local call: the callee is entered, it returns, and the caller is behind its call
  record Called (m : Machine) (at : Running code a m) (b : ℕ) : Type 0 where
    target : ℕ
    target_is : called m.frame.pc at.insn ≡ Some target
    has_bound : HasBound code left target (entered a at.known) b
    steps : ℕ
    next : Machine
    run : Run code m steps next
    few : steps ≤ 1 + b
    running : Running code a next
    edge : Edge
    one_of : IsOneOf edge (edges_at code a m.frame.pc)
    lands : edge.target ≡ next.frame.pc
    callers : next.callers ≡ m.callers

  module _ (callee : (l : ℕ) → left ≡ suc l → Functions code l) where
    calls : (m : Machine) → (at : Running code a m) → (offset : ℤ) → at.insn ≡ CallLocal offset → (b : ℕ) × Called m at b
    calls m at offset x-is =
        let is : insn_at code m.frame.pc ≡ Some (CallLocal offset) = at.insn_is ∙ ap Some x-is in
        let ok = right m.frame.pc at.known (CallLocal offset) at.known_is is in
        let lands = call_lands code (target_of m.frame.pc offset) ok.stands.lands in
        let t = lands.0 in
        let begins = called_begins code m.frame.pc (CallLocal offset) t ok.stands lands.1 in
        let deep : a.depth + 1 < frames = leb-false frames (a.depth + 1) ok.frame in
        let l = one_less left (omega (arith, deep)) in
        let s = entered a at.known in
        let bound = some_bound code structure left t s begins in
        let right_in = callee_right m.frame.pc t at.known (CallLocal offset) at.known_is is lands.1 in
        let known_fits = well_formed_at code code_fits left entry entered_in shallow state_fits m.frame.pc at.known at.known_is in
        let k = entered_at m 1 t in
        let below = frames_left left l.0 l.1 shallow in
        let at_depth : length k.callers ≡ frames - 1 - l.0 = ap suc at.runs.depth ∙ below.0 in
        let returns = callee l.0 l.1 t s bound.0 (subst (λ (n : ℕ). AllRight (visits_in code n t s)) l.1 right_in) (entry_well_formed (a.depth + 1) at.known deep known_fits) (subst (λ (n : ℕ). HasBound code n t s bound.0) l.1 bound.1) begins k refl (entered_means at.known s m a.depth 1 t at.means at.runs.depth (IsBelow-self s)) (record { depth = at_depth; has_frame = below.1 }) at.map at.bytes in
        (bound.0, behind_call m at offset x-is t lands.1 deep bound.0 bound.1 l.0 l.1 returns) where
          frames_left : (n l : ℕ) → n ≡ suc l → n < frames → (suc (frames - 1 - n) ≡ frames - 1 - l) × (frames - 1 - l < frames)
          frames_left n l e h = (omega (arith, e, h), omega (arith, e, h))

          behind_call : (m : Machine) → (at : Running code a m) → (offset : ℤ) → at.insn ≡ CallLocal offset → (t : ℕ) → target_of m.frame.pc offset ≡ Some t → a.depth + 1 < frames → (b : ℕ) → HasBound code left t (entered a at.known) b → (l : ℕ) → left ≡ suc l → Returns code (activation l (exits code l) t (entered a at.known)) (entered_at m 1 t) 0 b → Called m at b
          behind_call m at offset x-is t t-is deep b has l l-is r =
              let is : insn_at code m.frame.pc ≡ Some (CallLocal offset) = at.insn_is ∙ ap Some x-is in
              let ok = right m.frame.pc at.known (CallLocal offset) at.known_is is in
              let caller : Frame = record { pc = m.frame.pc + 1; registers = m.frame.registers } in
              let q = returned_to r.last caller m.callers r.value in
              let gone = exit_below code (activation l (exits code l) t (entered a at.known)) r.last.frame.pc (length (insns_by_slot code)) r.running.known r.running.known_is (r.running.insn_is ∙ ap Some r.exits_here) (insn_at_less code r.last.frame.pc r.running.insn r.running.insn_is) in
              let joined : join_all (exits code left t (entered a at.known)) ≡ Some gone.0 = ap (λ (n : ℕ). join_all (exits code n t (entered a at.known))) l-is ∙ gone.1 in
              let after : AbstractState = after_call (a.depth + 1) at.known gone.0 in
              let behind_is : (target_of m.frame.pc offset >>= λ u. behind a u at.known) ≡ Some after = ap (λ (o : Option ℕ). o >>= λ u. behind a u at.known) t-is ∙ ap (option_map (after_call (a.depth + 1) at.known)) joined in
              let e : Edge = edge (m.frame.pc + 1) after in
              let one : IsOneOf e (edges (behind a) m.frame.pc at.known (CallLocal offset)) = if_one (m.frame.pc + 1) after (Some (m.frame.pc + 1)) (target_of m.frame.pc offset >>= λ u. behind a u at.known) refl behind_is in
              let edges-are : edges_at code a m.frame.pc ≡ edges (behind a) m.frame.pc at.known (CallLocal offset) = ap (λ (o : Option AbstractState). edges_of a m.frame.pc o (insn_at code m.frame.pc)) at.known_is ∙ ap (edges_of a m.frame.pc (Some at.known)) is in
              let one_of : IsOneOf e (edges_at code a m.frame.pc) = subst (λ (es : List Edge). IsOneOf e es) (sym edges-are) one in
              let leads = edge_leads (behind a) code m.frame.pc at.known (CallLocal offset) e is ok.stands one in
              let there = leads.begins in
              let j = arrives code a m.frame.pc e one_of leads.later in
              let has_room : ltb (length m.callers + 1) frames ≡ true = lt-ltb (length m.callers + 1) frames (subst (λ (n : ℕ). n + 1 < frames) (sym at.runs.depth) deep) in
              let enters_step : step code m ≡ Some (Continues (entered_at m 1 t)) = ap (λ (o : Option Insn). o >>= λ (i : Insn). effect m i) is ∙ call_effect m offset t t-is has_room in
              let leaves_step : step code r.last ≡ Some (Continues q) = ap (λ (o : Option Insn). o >>= λ (i : Insn). effect r.last i) (r.running.insn_is ∙ ap Some r.exits_here) ∙ return_effect r.last caller m.callers r.value r.value_is r.callers in
              let few = r.few in
              record {
                target = t;
                target_is = ap (called m.frame.pc) x-is ∙ t-is;
                has_bound = has;
                steps = 2 + r.steps;
                next = q;
                run = step_then code m (entered_at m 1 t) q (1 + r.steps) (2 + r.steps) enters_step (run_then code (entered_at m 1 t) r.last q r.steps 1 (1 + r.steps) r.run (r.last, refl, leaves_step) (omega arith)) (omega arith);
                few = omega (arith, few);
                running = record {
                  runs = record { depth = at.runs.depth; has_frame = at.runs.has_frame };
                  map = r.running.map;
                  bytes = bytes_without r.last.memory (length m.callers + 1) r.running.bytes;
                  known = j.0;
                  known_is = j.1;
                  means = returned_means at.known gone.0 r.running.known j.0 m r.last caller m.callers r.value a.depth at.means r.running.means r.value_is refl at.runs.depth deep r.running.bytes gone.2 j.2;
                  insn = there.0;
                  insn_is = there.1;
                };
                edge = e;
                one_of = one_of;
                lands = refl;
                callers = refl;
              }

    -- it comes to an exit, since each edge leads to a later slot
    runs_on : (bound : ℕ) → HasBound code (suc left) entry entered_in bound → (fuel : ℕ) (m : Machine) → Running code a m → (n before : ℕ) → Path code a (HasBound code left) n before m.frame.pc → length (insns_by_slot code) ≤ m.frame.pc + fuel → Returns code a m before bound
    runs_on bound has zero m at n before path far =
        let less = insn_at_less code m.frame.pc at.insn at.insn_is in absurd (omega (arith, far, less))
    runs_on bound has (suc fuel) m at n before path far =
        elim (progress m at) [
          | inl g ↦ (
              let takes : Takes code a (HasBound code left) m.frame.pc 1 = record { state = at.known; state_is = at.known_is; insn = at.insn; insn_is = at.insn_is; takes = subst (λ (o : Option ℕ). TakesIn a (HasBound code left) at.known o 1) (sym g.own) refl } in
              let later = (edge_within code a m.frame.pc g.edge (structure m.frame.pc) g.one_of).0 in
              let lands = g.target in
              let rest = runs_on bound has fuel g.next g.running (suc n) (before + 1) (m.frame.pc, g.edge, before, 1, path, takes, g.one_of, g.target, refl) (omega (arith, far, later, lands)) in
              let few = rest.few in
              record {
                steps = 1 + rest.steps;
                last = rest.last;
                run = step_then code m g.next rest.last rest.steps (1 + rest.steps) g.step_is rest.run refl;
                running = rest.running;
                exits_here = rest.exits_here;
                value = rest.value;
                value_is = rest.value_is;
                callers = rest.callers ∙ g.callers;
                few = omega (arith, few);
              }
              )
          | inr (inl exit) ↦ (
              let takes : Takes code a (HasBound code left) m.frame.pc 1 = record { state = at.known; state_is = at.known_is; insn = at.insn; insn_is = at.insn_is; takes = subst (λ (x : Insn). TakesIn a (HasBound code left) at.known (called m.frame.pc x) 1) (sym exit) refl } in
              let most = has.enough n m.frame.pc before 1 path takes in
              let ok = right m.frame.pc at.known Exit at.known_is (at.insn_is ∙ ap Some exit) in
              let result = result_is m at.known at.means ok.operands in
              record {
                steps = 0;
                last = m;
                run = refl;
                running = at;
                exits_here = exit;
                value = result.0;
                value_is = result.1;
                callers = refl;
                few = omega (arith, most);
              }
              )
          | inr (inr (offset, call)) ↦ (
              let whole = calls m at offset call in
              let b = whole.0 in
              let c = whole.1 in
              let takes : Takes code a (HasBound code left) m.frame.pc (1 + b) = record { state = at.known; state_is = at.known_is; insn = at.insn; insn_is = at.insn_is; takes = subst (λ (o : Option ℕ). TakesIn a (HasBound code left) at.known o (1 + b)) (sym c.target_is) (b, c.has_bound, refl) } in
              let later = (edge_within code a m.frame.pc c.edge (structure m.frame.pc) c.one_of).0 in
              let lands = c.lands in
              let rest = runs_on bound has fuel c.next c.running (suc n) (before + (1 + b)) (m.frame.pc, c.edge, before, 1 + b, path, takes, c.one_of, c.lands, refl) (omega (arith, far, later, lands)) in
              let few = rest.few in
              let steps = c.few in
              record {
                steps = c.steps + rest.steps;
                last = rest.last;
                run = run_then code m c.next rest.last c.steps rest.steps (c.steps + rest.steps) c.run rest.run refl;
                running = rest.running;
                exits_here = rest.exits_here;
                value = rest.value;
                value_is = rest.value_is;
                callers = rest.callers ∙ c.callers;
                few = omega (arith, few, steps);
              }
              )
        ]

    returns : (bound : ℕ) → HasBound code (suc left) entry entered_in bound → BeginsAt code entry → (m : Machine) → m.frame.pc ≡ entry → Abstracts entered_in m → RunsAt a.depth m → HasMap m → HoldsBytes m.memory → Returns code a m 0 bound
    returns bound has begins m pc-is means runs has_map bytes =
        let first = enters_below code a in
        let at : Running code a m = record {
          runs = runs;
          map = has_map;
          bytes = bytes;
          known = first.0;
          known_is = ap (state_at code a) pc-is ∙ first.1;
          means = placed_means entered_in first.0 m m.frame.pc means first.2;
          insn = begins.0;
          insn_is = ap (insn_at code) pc-is ∙ begins.1;
        } in
        runs_on bound has (length (insns_by_slot code)) m at 0 0 (pc-is, refl) (omega arith)

-- each function returns
functions_return : (code : List Insn) → AllByRecursion IsInsn code → ((slot : ℕ) → structure_fault code slot ≡ None) → (left : ℕ) → left < frames → Functions code left
functions_return code code_fits structure zero shallow target state bound all fits has begins m pc-is means runs has_map bytes =
    returns code code_fits structure zero target state shallow fits all (λ l e. absurd (omega (arith, e))) bound has begins m pc-is means runs has_map bytes
functions_return code code_fits structure (suc left) shallow target state bound all fits has begins m pc-is means runs has_map bytes =
    returns code code_fits structure (suc left) target state shallow fits all (one_deeper code left (functions_return code code_fits structure left (omega (arith, shallow)))) bound has begins m pc-is means runs has_map bytes

-- ---- accepted code

module _ (profile : Profile) (bytes : List ℕ) (code : List Insn) (bound : ℕ) (c : IsCode bytes code) (accepted : IsAccepted profile code bound) where
  main_returns : (call : Call) → IsCall call → Returns code (activation 7 (exits code 7) 0 (start_state profile)) (start call) 0 bound
  main_returns call is =
      functions_return code c.in_range accepted.structure 7 (omega arith) 0 (start_state profile) bound (all_right profile code accepted.dataflow).0 (IsWellFormed-start profile) accepted.longest (first_at code (few bytes code c).0) (start call) refl (start_means profile call is) (record { depth = refl; has_frame = omega arith }) (is.entries, is.client) (start_bytes call is)

  -- the last step
  ends_here : (call : Call) (is : IsCall call) → step code (main_returns call is).last ≡ Some (Ends (main_returns call is).value)
  ends_here call is =
      let r = main_returns call is in
      ap (λ (o : Option Insn). o >>= λ (i : Insn). effect r.last i) (r.running.insn_is ∙ ap Some r.exits_here) ∙ end_effect r.last r.value r.value_is r.callers

  ends_so : (call : Call) → IsCall call → (ending : Ending) × EndsSo code call ending × (ending.steps ≤ bound)
  ends_so call is =
      let r = main_returns call is in
      let few = r.few in (
        record { value = r.value; output = r.last.output; entries = r.last.entries; steps = r.steps + 1 },
        record { before = r.steps; last = r.last; run = r.run; exits = ends_here call is; output = refl; entries = refl; steps = refl },
        omega (arith, few),
      )

  -- a machine that is reached comes before the last step, and so has one
  unstuck : (call : Call) → IsCall call → (n : ℕ) (m : Machine) → Run code (start call) n m → IsSome (step code m)
  unstuck call is n m run =
      let ends = ends_so call is in
      let e = ends.1 in
      let within = run_within code call ends.0 n m e run in
      let sum = e.steps in
      elim (cases_lt n e.before) [
        | inl lt ↦
            let at = earlier code (start call) e.before n e.last lt e.run in
            let same = same_run code (start call) n m at.0 run at.2 in
            is_some_of (step code m) (Continues at.1) (ap (step code) same ∙ at.3)
        | inr le ↦
            let now : n ≡ e.before = omega (arith, within, sum, le) in
            let same = same_run code (start call) n m e.last run (subst (λ (k : ℕ). Run code (start call) k e.last) (sym now) e.run) in
            is_some_of (step code m) (Ends ends.0.value) (ap (step code) same ∙ e.exits)
      ]

  pub safe : IsSafe code bound
  safe = record { unstuck = unstuck; ends = ends_so }

  pub bounded : bound ≤ 65536
  bounded =
      let few = (all_right profile code accepted.dataflow).1 in
      let most = bound_few code accepted.structure frames 0 (start_state profile) bound accepted.longest in
      omega (arith, few, most)
