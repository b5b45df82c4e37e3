-- Edges of code whose structure has no fault lead forward, each to an instruction.
use Rattle.std.proofs.Common.{◌≡◌, ◌⊎◌, ℕ, ◌+◌, ◌<◌, true, false, ◌&&◌, leb, List, [], ◌∷◌, ◌++◌, length, Option, Some, None, ℤ, pos, negsuc, refl, sym, ap, subst, ◌∙◌, arith, inl, inr}
use Rattle.std.specs.Prelude.{option_and_then}
use Rattle.std.specs.Option.{is_none}
use Rattle.std.proofs.lemmas.Bool.{leb-false}
use Rattle.bpf_decode.specs.declared.insn.Insn.{Insn}
use Rattle.bpf_decode.specs.declared.insn.Insn.TheVariants.{Alu, Swap, LoadImm, Load, StoreImm, Store, Jump, JumpLong, Test, CallHelper, CallLocal, Exit}
use Rattle.bpf_num.specs.Bind.{◌>>=◌}
use Rattle.bpf_model.specs.Code.{slots_of, insns_by_slot, insn_at, target_of}
use Rattle.bpf_model.specs.declared.fault.VerifyFault.TheVariants.{JumpBackward, JumpOutside, FallsOffEnd, UnknownHelper, WritesFramePointer}
use Rattle.bpf_model.specs.AbstractState.{AbstractState, Edge, edge, edge_if, edges, after_test, IsOneOf}
use Rattle.bpf_model.specs.Dataflow.{Activation, called, behind, edges_of, state_at, edges_at}
use Rattle.bpf_model.specs.Verdict.{structure_fault, insn_structure_fault, slot_structure_fault, jumps_back, is_backward, offset_of, leads_outside, falls_through, calls_unknown, writes_r10}
use Rattle.bpf_model.proofs.Options.{some_is, no_fault_of_five}
use Rattle.bpf_model.proofs.Slots.{some_slots, insn_at_less, next_at}

-- what a slot's having no fault of structure says
pub record Stands (code : List Insn) (slot : ℕ) (x : Insn) : Type 0 where
  pub forward : jumps_back x ≡ false
  pub lands : leads_outside code slot (offset_of x) ≡ false
  pub behind : (falls_through x && leb (length (insns_by_slot code)) (slot + slots_of x)) ≡ false
  pub helper : calls_unknown x ≡ false
  pub r10 : writes_r10 x ≡ false

pub stands : (code : List Insn) (slot : ℕ) (x : Insn) → structure_fault code slot ≡ None → insn_at code slot ≡ Some x → Stands code slot x
stands code slot x sound is =
    let none : insn_structure_fault code slot x ≡ None = sym (ap (slot_structure_fault code slot) is) ∙ sound in
    let whole = no_fault_of_five (jumps_back x) (leads_outside code slot (offset_of x)) (falls_through x && leb (length (insns_by_slot code)) (slot + slots_of x)) (calls_unknown x) (writes_r10 x) JumpBackward JumpOutside FallsOffEnd UnknownHelper WritesFramePointer none in
    record { forward = whole.0; lands = whole.1; behind = whole.2; helper = whole.3; r10 = whole.4 }

-- a slot at which an instruction begins
abbrev pub BeginsAt : List Insn → ℕ → Type 0
BeginsAt code t = (x : Insn) × (insn_at code t ≡ Some x)

-- where a jump that has no fault leads to: forward, to an instruction
pub record Lands (code : List Insn) (slot : ℕ) (offset : ℤ) : Type 0 where
  pub target : ℕ
  pub target_is : target_of slot offset ≡ Some target
  pub later : slot < target
  pub begins : BeginsAt code target

begins_there : (o : Option Insn) → is_none o ≡ false → (x : Insn) × (o ≡ Some x)
begins_there None e = absurd cc
begins_there (Some x) e = (x, refl)

pub jump_lands : (code : List Insn) (slot : ℕ) (offset : ℤ) → is_backward offset ≡ false → leads_outside code slot (Some offset) ≡ false → Lands code slot offset
jump_lands code slot (pos n) forward inside = record {
  target = slot + 1 + n;
  target_is = refl;
  later = omega arith;
  begins = begins_there (insn_at code (slot + 1 + n)) inside;
}
jump_lands code slot (negsuc n) forward inside = absurd cc

falls_to : (code : List Insn) (slot : ℕ) (x : Insn) → insn_at code slot ≡ Some x → leb (length (insns_by_slot code)) (slot + slots_of x) ≡ false → BeginsAt code (slot + slots_of x)
falls_to code slot x is behind = next_at code slot x is (leb-false _ _ behind)

-- an edge leads forward, to an instruction
pub record LeadsOn (code : List Insn) (slot : ℕ) (e : Edge) : Type 0 where
  pub later : slot < e.target
  pub begins : BeginsAt code e.target

onward_leads : (code : List Insn) (slot : ℕ) (x : Insn) (s : AbstractState) (e : Edge) → insn_at code slot ≡ Some x → leb (length (insns_by_slot code)) (slot + slots_of x) ≡ false → IsOneOf e (edge (slot + slots_of x) s ∷ []) → LeadsOn code slot e
onward_leads code slot x s e is behind (inl same) =
    let some = some_slots x in
    subst (λ (d : Edge). LeadsOn code slot d) (sym same) (record { later = omega arith; begins = falls_to code slot x is behind })
onward_leads code slot x s e is behind (inr h) = absurd h

if_leads : (code : List Insn) (slot t : ℕ) (target : Option ℕ) (o : Option AbstractState) (e : Edge) → target ≡ Some t → slot < t → BeginsAt code t → IsOneOf e (edge_if target o) → LeadsOn code slot e
if_leads code slot t None o e is later begins h = absurd h
if_leads code slot t (Some u) None e is later begins h = absurd h
if_leads code slot t (Some u) (Some s) e is later begins (inl same) =
    let u-is : u ≡ t = some_is u t is in
    subst (λ (d : Edge). LeadsOn code slot d) (sym same) (record { later = omega arith; begins = subst (λ (k : ℕ). BeginsAt code k) (sym u-is) begins })
if_leads code slot t (Some u) (Some s) e is later begins (inr h) = absurd h

one_of_append : (e : Edge) (xs ys : List Edge) → IsOneOf e (xs ++ ys) → IsOneOf e xs ⊎ IsOneOf e ys
one_of_append e [] ys h = inr h
one_of_append e (x ∷ xs) ys (inl is) = inl (inl is)
one_of_append e (x ∷ xs) ys (inr h) = elim (one_of_append e xs ys h) [ inl l ↦ inl (inr l) | inr r ↦ inr r ]

-- each edge out of an instruction that has no fault does
pub edge_leads : (b : ℕ → AbstractState → Option AbstractState) (code : List Insn) (slot : ℕ) (state : AbstractState) (x : Insn) (e : Edge) → insn_at code slot ≡ Some x → Stands code slot x → IsOneOf e (edges b slot state x) → LeadsOn code slot e
edge_leads b code slot state (Alu width op dst src) e is ok h = onward_leads code slot (Alu width op dst src) _ e is ok.behind h
edge_leads b code slot state (Swap kind width dst) e is ok h = onward_leads code slot (Swap kind width dst) _ e is ok.behind h
edge_leads b code slot state (LoadImm dst value) e is ok h = onward_leads code slot (LoadImm dst value) _ e is ok.behind h
edge_leads b code slot state (Load size signed dst base offset) e is ok h =
    onward_leads code slot (Load size signed dst base offset) _ e is ok.behind h
edge_leads b code slot state (StoreImm size base offset imm) e is ok h =
    onward_leads code slot (StoreImm size base offset imm) _ e is ok.behind h
edge_leads b code slot state (Store size base offset src) e is ok h =
    onward_leads code slot (Store size base offset src) _ e is ok.behind h
edge_leads b code slot state (Jump offset) e is ok h =
    let lands = jump_lands code slot offset ok.forward ok.lands in
    if_leads code slot lands.target (target_of slot offset) (Some state) e lands.target_is lands.later lands.begins h
edge_leads b code slot state (JumpLong offset) e is ok h =
    let lands = jump_lands code slot offset ok.forward ok.lands in
    if_leads code slot lands.target (target_of slot offset) (Some state) e lands.target_is lands.later lands.begins h
edge_leads b code slot state (Test narrow test dst src offset) e is ok h =
    let lands = jump_lands code slot offset ok.forward ok.lands in
    elim (one_of_append e (edge_if (Some (slot + 1)) (after_test state narrow test dst.number src false)) (edge_if (target_of slot offset) (after_test state narrow test dst.number src true)) h) [
      | inl l ↦
          if_leads code slot (slot + 1) (Some (slot + 1)) (after_test state narrow test dst.number src false) e refl (omega arith) (falls_to code slot (Test narrow test dst src offset) is ok.behind) l
      | inr r ↦
          if_leads code slot lands.target (target_of slot offset) (after_test state narrow test dst.number src true) e lands.target_is lands.later lands.begins r
    ]
edge_leads b code slot state (CallHelper number) e is ok h = onward_leads code slot (CallHelper number) _ e is ok.behind h
edge_leads b code slot state (CallLocal offset) e is ok h =
    if_leads code slot (slot + 1) (Some (slot + 1)) (target_of slot offset >>= λ target. b target state) e refl (omega arith) (falls_to code slot (CallLocal offset) is ok.behind) h
edge_leads b code slot state Exit e is ok h = absurd h

-- where an edge comes from
pub edge_from : (a : Activation) (s : ℕ) (o : Option AbstractState) (i : Option Insn) (e : Edge) → IsOneOf e (edges_of a s o i) → (state : AbstractState) × (x : Insn) × (o ≡ Some state) × (i ≡ Some x) × IsOneOf e (edges (behind a) s state x)
edge_from a s None i e h = absurd h
edge_from a s (Some state) None e h = absurd h
edge_from a s (Some state) (Some x) e h = (state, x, refl, refl, h)

-- so does each edge out of a slot
pub edges_lead : (code : List Insn) (a : Activation) (slot : ℕ) (e : Edge) → structure_fault code slot ≡ None → IsOneOf e (edges_at code a slot) → LeadsOn code slot e
edges_lead code a slot e sound one =
    let from = edge_from a slot (state_at code a slot) (insn_at code slot) e one in
    edge_leads (behind a) code slot from.0 from.1 e from.3 (stands code slot from.1 sound from.3) from.4

-- an edge leads to a later slot of the code
pub edge_within : (code : List Insn) (a : Activation) (slot : ℕ) (e : Edge) → structure_fault code slot ≡ None → IsOneOf e (edges_at code a slot) → (slot < e.target) × (e.target < length (insns_by_slot code))
edge_within code a slot e sound one =
    let leads = edges_lead code a slot e sound one in
    let begins = leads.begins in
    (leads.later, insn_at_less code e.target begins.0 begins.1)

-- the slot that a local call leads to, which lies in the code
pub called_begins : (code : List Insn) (slot : ℕ) (x : Insn) (t : ℕ) → Stands code slot x → called slot x ≡ Some t → BeginsAt code t
called_begins code slot (CallLocal offset) t ok e =
    begins_there (insn_at code t) (sym (ap (λ (o : Option ℕ). is_none (option_and_then (insn_at code) o)) e) ∙ ok.lands)
called_begins code slot _ t ok e = absurd cc
