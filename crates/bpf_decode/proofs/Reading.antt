-- A slot and the instruction or the fault that is read from it.
use Rattle.std.proofs.Common.{◌≡◌, ℕ, ◌≤◌, Bool, true, false, rules, Option, Some, pos, ℤ, refl, sym, ap, subst, ◌∙◌, ◌⊎◌, inl, inr}
use Rattle.std.specs.Prelude.{Result, Ok, Err, OnOk, IfErr, ◌||◌, ◌&&◌, not, ◌==◌}
use Rattle.std.proofs.lemmas.Bool.{le-ltb}
use Rattle.bpf_num.specs.declared.AluOp.{AluOp}
use Rattle.bpf_num.specs.declared.AluWidth.{AluWidth}
use Rattle.bpf_decode.specs.declared.insn.Insn.TheVariants as insn
use Rattle.bpf_decode.specs.declared.insn.Reg.{Reg}
use Rattle.bpf_decode.specs.declared.insn.Source.TheVariants as source
use Rattle.bpf_decode.specs.declared.refusal.DecodeFault.{DecodeFault}
use Rattle.bpf_decode.specs.declared.refusal.DecodeFault.TheVariants.{FieldNotZero, Memory}
use Rattle.bpf_decode.specs.declared.opcode.Opcode.{Opcode}
use Rattle.bpf_decode.specs.declared.opcode.Opcode.TheVariants as opcode
use Rattle.bpf_decode.specs.declared.opcode.Operation.{Operation}
use Rattle.bpf_decode.specs.declared.opcode.SourceKind.{SourceKind}
use Rattle.bpf_decode.specs.declared.opcode.SourceKind.TheVariants.{K, X}
use Rattle.bpf_decode.specs.declared.slot.Slot.{Slot}
use Rattle.bpf_decode.specs.Opcodes.{opcode_byte, opcode_of, operation_of, offset_of, has_form, has_operand, uses_offset, variant_of}
use Rattle.bpf_decode.specs.Encoding.{IsSlot, slot_with}
use Rattle.bpf_decode.specs.Faults.{form_fault, fault_of, slot_fault, has_stray_field, is_not_zero}
use Rattle.bpf_decode.specs.Parts.{Reads}

-- the form's fault is the slot's, where the opcode and the registers have none
fault_is : (o : Opcode) (s : Slot) (b : Option Slot) (f : DecodeFault) → opcode_of s.opcode ≡ Some o → s.dst ≤ 10 → s.src ≤ 10 → form_fault o s b ≡ Some f → slot_fault s b ≡ Some f
fault_is o s b f e d r h =
    ap (λ (p : Option Opcode). fault_of p s b) e ∙ rw (le-ltb 10 s.dst d, le-ltb 10 s.src r) h

-- a fault that is handed on
pub refused_by : (A S : Type 0) (now : S) (r : Result A DecodeFault) (o : Opcode) (s : Slot) (b : Option Slot) (f : DecodeFault) → opcode_of s.opcode ≡ Some o → s.dst ≤ 10 → s.src ≤ 10 → form_fault o s b ≡ Some f → IfErr r (λ x. x ≡ f) → IfErr r (λ x. (x ≡ Memory) ⊎ ((slot_fault s b ≡ Some x) × (now ≡ now)))
refused_by A S now (Ok x) o s b f e d r h same = tt
refused_by A S now (Err x) o s b f e d r h same = inr (fault_is o s b x e d r (h ∙ ap Some (sym same)), refl)

-- what a result is known to hold
pub found_in : (P : Type 0) (r : Result (Unit {0}) DecodeFault) (u : Unit {0}) → r ≡ Ok u → OnOk r P → P
found_in P (Ok x) u e h = h
found_in P (Err x) u e h = absurd cc

fault_in : (P : DecodeFault → Type 0) (r : Result (Unit {0}) DecodeFault) (f : DecodeFault) → r ≡ Err f → IfErr r P → P f
fault_in P (Ok x) f e h = absurd cc
fault_in P (Err x) f e h = let same : x ≡ f = cc in subst P same h

-- a fault that a slot was refused for, handed on with what the sink is
pub handed_on : (S P : Type 0) (s : Slot) (b : Option Slot) (old new sink : S) (r : Result (Unit {0}) DecodeFault) (f : DecodeFault) (k : ℕ) → r ≡ Err f → sink ≡ new → IfErr r (λ x. (x ≡ Memory) ⊎ ((slot_fault s b ≡ Some x) × (new ≡ old))) → (slot_fault s b ≡ Some f → P) → (f ≡ Memory) ⊎ ((k ≡ k) × P × (sink ≡ old))
handed_on S P s b old new sink r f k e same refused faulty = elim (fault_in _ r f e refused) [ inl memory ↦ inl memory | inr is ↦ inr (refl, faulty is.0, same ∙ is.1) ]

pub or_false : (p q : Bool) → (p || q) ≡ false → (p ≡ false) × (q ≡ false)
or_false true q h = absurd cc
or_false false q h = (refl, h)

pub zero_is : (n : ℕ) → not (n == 0) ≡ false → n ≡ 0
zero_is n h = search rules

pub zero_int : (z : ℤ) → is_not_zero z ≡ false → z ≡ pos 0
zero_int z h = search rules

-- the offset of the variant that was read
offset_again : (operation : Operation) (op : AluOp) (z : ℤ) → (uses_offset operation ≡ true → offset_of op ≡ z) → (uses_offset operation ≡ false → offset_of op ≡ pos 0) → (not (uses_offset operation) && is_not_zero z) ≡ false → offset_of op ≡ z
offset_again operation op z used unused h = test (uses_offset operation) refl h where
  test : (u : Bool) → uses_offset operation ≡ u → (not u && is_not_zero z) ≡ false → offset_of op ≡ z
  test true e k = used e
  test false e k = unused e ∙ sym (zero_int z k)

operand_again : (operation : Operation) (z : ℤ) → (not (has_operand operation) && is_not_zero z) ≡ false → has_operand operation ≡ false → z ≡ pos 0
operand_again operation z h e = zero_int z (ap (λ (u : Bool). not u && is_not_zero z) (sym e) ∙ h)

pub slot_is : (o p : Opcode) (s : Slot) (d r : ℕ) (x y : ℤ) → s.opcode ≡ opcode_byte p → o ≡ p → d ≡ s.dst → r ≡ s.src → x ≡ s.offset → y ≡ s.imm → slot_with o d r x y ≡ s
slot_is o p s d r x y eo e ed er ex ey = rw (e, sym eo, ed, er, ex, ey) refl

pub alu_imm_read : (s : Slot) (b : Option Slot) (z : ℤ) (width : AluWidth) (operation : Operation) (op : AluOp) (dst : Reg) → IsSlot s → z ≡ s.imm → s.opcode ≡ opcode_byte (opcode.Alu width operation K) → dst.number ≡ s.dst → operation_of op ≡ operation → has_form width op K ≡ true → (uses_offset operation ≡ true → offset_of op ≡ s.offset) → (uses_offset operation ≡ false → offset_of op ≡ pos 0) → has_stray_field (opcode.Alu width operation K) s b ≡ false → Reads s b (insn.Alu width op dst (source.Imm z))
alu_imm_read s b z width operation op dst fits imm code d same form used unused stray =
    let p = or_false (not (s.src == 0) || (not (uses_offset operation) && is_not_zero s.offset)) (not (has_operand operation) && is_not_zero s.imm) stray in
    let q = or_false (not (s.src == 0)) (not (uses_offset operation) && is_not_zero s.offset) p.0 in
    let no_src : s.src ≡ 0 = zero_is s.src q.0 in
    record {
      in_range = rw imm (form, fits.imm, λ e. operand_again operation s.imm p.1 (ap has_operand (sym same) ∙ e));
      first = slot_is (opcode.Alu width (operation_of op) K) (opcode.Alu width operation K) s dst.number 0 (offset_of op) z code (ap (λ (o : Operation). opcode.Alu width o K) same) d (sym no_src) (offset_again operation op s.offset used unused q.1) imm;
      others = refl;
    }

pub alu_reg_read : (s : Slot) (b : Option Slot) (width : AluWidth) (operation : Operation) (op : AluOp) (dst src : Reg) → s.opcode ≡ opcode_byte (opcode.Alu width operation X) → dst.number ≡ s.dst → src.number ≡ s.src → operation_of op ≡ operation → has_form width op X ≡ true → (uses_offset operation ≡ true → offset_of op ≡ s.offset) → (uses_offset operation ≡ false → offset_of op ≡ pos 0) → has_stray_field (opcode.Alu width operation X) s b ≡ false → Reads s b (insn.Alu width op dst (source.Reg src))
alu_reg_read s b width operation op dst src code d r same form used unused stray =
    let q = or_false (not (uses_offset operation) && is_not_zero s.offset) (is_not_zero s.imm) stray in
    record {
      in_range = form;
      first = slot_is (opcode.Alu width (operation_of op) X) (opcode.Alu width operation X) s dst.number src.number (offset_of op) (pos 0) code (ap (λ (o : Operation). opcode.Alu width o X) same) d r (offset_again operation op s.offset used unused q.0) (sym (zero_int s.imm q.1));
      others = refl;
    }

pub alu_stray : (s : Slot) (b : Option Slot) (width : AluWidth) (operation : Operation) (source : SourceKind) (op : AluOp) → variant_of width operation source s.offset ≡ Some op → has_stray_field (opcode.Alu width operation source) s b ≡ true → form_fault (opcode.Alu width operation source) s b ≡ Some FieldNotZero
alu_stray s b width operation source op found stray = rw (found, stray) refl
