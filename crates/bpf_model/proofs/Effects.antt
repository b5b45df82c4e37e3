-- What an instruction leaves: the output within 256 bytes, and but for a helper the tenant's map as it was.
use Rattle.std.proofs.Common.{◌≡◌, ℕ, ◌+◌, ◌≤◌, Bool, true, false, cond, eqb, List, [], ◌∷◌, length, Some, None, ℤ, refl, sym, ap, subst}
use Rattle.std.specs.Prelude.{nat_lt}
use Rattle.std.specs.FinMap as finite
use Rattle.bpf_decode.specs.declared.insn.Insn.{Insn}
use Rattle.bpf_decode.specs.declared.insn.Insn.TheVariants.{Alu, Swap, LoadImm, Load, StoreImm, Store, Jump, JumpLong, Test, CallHelper, CallLocal, Exit}
use Rattle.map_helpers.specs.Entries.{Entries}
use Rattle.map_helpers.specs.declared.helper.Helper.{Helper}
use Rattle.map_helpers.specs.Helpers.{helper_of, reads}
use Rattle.map_helpers.specs.Effects.{effect_of}
use Rattle.map_helpers.proofs.Kept.{output_short}
use Rattle.bpf_model.specs.Access.{bytes_of, address_of, stored_bytes}
use Rattle.bpf_model.specs.Code.{insn_at, target_of}
use Rattle.bpf_model.specs.Machine.{Machine, Frame, Memory, frames, is_in_bounds, bytes_at}
use Rattle.bpf_model.specs.HelperCalls.{bytes_read, context, answer_of}
use Rattle.bpf_model.specs.Step.{Next, Continues, Ends, source_value, destination_value, tested_value, written, stores, jumps, branches, after_answer, enters, returned, effect, step}
use Rattle.bpf_model.proofs.Options.{bind_some, some_is}
use Rattle.bpf_model.proofs.Calls.{entered_at}
use Rattle.bpf_model.proofs.Runs.{continues_is}
use Rattle.bpf_model.proofs.HelperCalls.{called}

-- the output within 256 bytes
abbrev IsShort : List ℕ → Type 0
IsShort output = length output ≤ 256

-- a property of maps that is kept, and so is the output's limit
abbrev pub Keeps : (Entries → Type 0) → Machine → Machine → Type 0
Keeps P m next = (P m.entries → P next.entries) × (length m.output ≤ 256 → length next.output ≤ 256)

same_map : (P : Entries → Type 0) (m next : Machine) → next.entries ≡ m.entries → next.output ≡ m.output → Keeps P m next
same_map P m next e o = ((λ p. subst P (sym e) p), (λ short. subst IsShort (sym o) short))

-- the machine in which a step continues, or the other
abbrev machine_of : Machine → Next → Machine
machine_of m (Continues k) = k
machine_of m (Ends value) = m

next_is : (m next : Machine) (n : Next) → Some n ≡ Some (Continues next) → machine_of m n ≡ next
next_is m next n e = ap (machine_of m) (some_is n (Continues next) e)

machine_keeps : (P : Entries → Type 0) (m k next : Machine) → Some (Continues k) ≡ Some (Continues next) → k.entries ≡ m.entries → k.output ≡ m.output → Keeps P m next
machine_keeps P m k next e entries output =
    let is = continues_is k next e in
    subst (λ (n : Machine). Keeps P m n) is (same_map P m k entries output)

written_keeps : (P : Entries → Type 0) (m next : Machine) (slots dst value : ℕ) → written m slots dst value ≡ Some (Continues next) → Keeps P m next
written_keeps P m next slots dst value e = cases (eqb dst 10) e where
  k : Machine
  k = record m { frame = record { pc = m.frame.pc + slots; registers = finite.insert m.frame.registers dst value } }

  cases : (b : Bool) → cond b None (Some (Continues k)) ≡ Some (Continues next) → Keeps P m next
  cases true h = absurd cc
  cases false h = machine_keeps P m k next h refl refl

stores_keeps : (P : Entries → Type 0) (m next : Machine) (slots address : ℕ) (bytes : List ℕ) → stores m slots address bytes ≡ Some (Continues next) → Keeps P m next
stores_keeps P m next slots address bytes e = cases (is_in_bounds (length m.callers) address (length bytes)) _ e where
  cases : (b : Bool) (memory : Memory) → cond b (Some (Continues (record m { frame = record { pc = m.frame.pc + slots; registers = m.frame.registers }; memory = memory }))) None ≡ Some (Continues next) → Keeps P m next
  cases true memory h = machine_keeps P m _ next h refl refl
  cases false memory h = absurd cc

jumps_keeps : (P : Entries → Type 0) (m next : Machine) (offset : ℤ) → jumps m offset ≡ Some (Continues next) → Keeps P m next
jumps_keeps P m next offset e =
    let t = bind_some (target_of m.frame.pc offset) _ (Continues next) e in
    machine_keeps P m (record m { frame = record { pc = t.0; registers = m.frame.registers } }) next t.2 refl refl

branches_keeps : (P : Entries → Type 0) (m next : Machine) (slots : ℕ) (offset : ℤ) (taken : Bool) → branches m slots offset taken ≡ Some (Continues next) → Keeps P m next
branches_keeps P m next slots offset true e = jumps_keeps P m next offset e
branches_keeps P m next slots offset false e =
    machine_keeps P m (record m { frame = record { pc = m.frame.pc + slots; registers = m.frame.registers } }) next e refl refl

enters_keeps : (P : Entries → Type 0) (m next : Machine) (slots target : ℕ) → enters m slots target ≡ Some (Continues next) → Keeps P m next
enters_keeps P m next slots target e = cases (nat_lt (length m.callers + 1) frames) e where
  cases : (b : Bool) → cond b (Some (Continues (entered_at m slots target))) None ≡ Some (Continues next) → Keeps P m next
  cases true h = machine_keeps P m (entered_at m slots target) next h refl refl
  cases false h = absurd cc

-- a helper's effect keeps the property
abbrev pub AnswersKeep : (Entries → Type 0) → Type 0
AnswersKeep P =
    (helper : Helper) (m : Machine) (bytes : List ℕ) → bytes_read m (reads helper) ≡ Some bytes → P m.entries → P (effect_of helper (context m) bytes).entries

pub effect_keeps : (P : Entries → Type 0) → AnswersKeep P → (m next : Machine) (x : Insn) → effect m x ≡ Some (Continues next) → Keeps P m next
effect_keeps P answers m next (Alu width op dst src) e =
    let b = bind_some (source_value m.frame.registers src) _ (Continues next) e in
    let a = bind_some (destination_value m.frame.registers op dst.number) _ (Continues next) b.2 in
    written_keeps P m next 1 dst.number _ a.2
effect_keeps P answers m next (Swap kind width dst) e =
    let a = bind_some (finite.get m.frame.registers dst.number) _ (Continues next) e in written_keeps P m next 1 dst.number _ a.2
effect_keeps P answers m next (LoadImm dst value) e = written_keeps P m next 2 dst.number value e
effect_keeps P answers m next (Load size signed dst base offset) e =
    let a = bind_some (finite.get m.frame.registers base.number) _ (Continues next) e in
    let bytes = bind_some (bytes_at m.memory (address_of a.0 offset) (bytes_of size)) _ (Continues next) a.2 in
    written_keeps P m next 1 dst.number _ bytes.2
effect_keeps P answers m next (StoreImm size base offset imm) e =
    let a = bind_some (finite.get m.frame.registers base.number) _ (Continues next) e in
    stores_keeps P m next 1 (address_of a.0 offset) _ a.2
effect_keeps P answers m next (Store size base offset src) e =
    let a = bind_some (finite.get m.frame.registers base.number) _ (Continues next) e in
    let b = bind_some (finite.get m.frame.registers src.number) _ (Continues next) a.2 in
    stores_keeps P m next 1 (address_of a.0 offset) (stored_bytes size b.0) b.2
effect_keeps P answers m next (Jump offset) e = jumps_keeps P m next offset e
effect_keeps P answers m next (JumpLong offset) e = jumps_keeps P m next offset e
effect_keeps P answers m next (Test narrow test dst src offset) e =
    let b = bind_some (tested_value m.frame.registers narrow src) _ (Continues next) e in
    let a = bind_some (finite.get m.frame.registers dst.number) _ (Continues next) b.2 in
    branches_keeps P m next 1 offset _ a.2
effect_keeps P answers m next (CallHelper number) e =
    let helper = bind_some (helper_of number) _ (Continues next) e in
    let answer = bind_some (answer_of helper.0 m) _ (Continues next) helper.2 in
    let is = next_is m next (after_answer m 1 answer.0) answer.2 in
    let call = called helper.0 m answer.0 answer.1 in (
      (λ p. subst P (ap (λ (k : Machine). k.entries) is) (subst P (sym call.entries_are) (answers helper.0 m call.bytes call.bytes_are p))),
      (λ short. subst IsShort (ap (λ (k : Machine). k.output) is) (subst IsShort (sym call.output_is) (output_short helper.0 (context m) call.bytes short))),
    )
effect_keeps P answers m next (CallLocal offset) e =
    let t = bind_some (target_of m.frame.pc offset) _ (Continues next) e in enters_keeps P m next 1 t.0 t.2
effect_keeps P answers m next Exit e =
    let result = bind_some (finite.get m.frame.registers 0) _ (Continues next) e in
    cases m.callers result.0 result.2 where
      cases : (callers : List Frame) (result : ℕ) → Some (returned callers m result) ≡ Some (Continues next) → Keeps P m next
      cases [] result h = absurd cc
      cases (caller ∷ callers) result h = machine_keeps P m _ next h refl refl

pub step_keeps : (P : Entries → Type 0) → AnswersKeep P → (code : List Insn) (m next : Machine) → step code m ≡ Some (Continues next) → Keeps P m next
step_keeps P answers code m next e =
    let insn = bind_some (insn_at code m.frame.pc) (λ x. effect m x) (Continues next) e in
    effect_keeps P answers m next insn.0 insn.2
