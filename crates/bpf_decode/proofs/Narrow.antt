-- What is read of a slot whose opcode isn't the wide one, whatever is behind it.
use Rattle.std.proofs.Common.{◌≡◌, ℕ, ◌+◌, ◌*◌, ◌/◌, ◌%◌, ◌≤◌, List, length, Option, None, Some, refl, sym, ap, subst, ◌∙◌, arith}
use Rattle.bpf_decode.specs.declared.insn.Insn.{Insn}
use Rattle.bpf_decode.specs.declared.insn.Insn.TheVariants as insn
use Rattle.bpf_decode.specs.declared.opcode.Opcode.{Opcode}
use Rattle.bpf_decode.specs.declared.opcode.Opcode.TheVariants as opcode
use Rattle.bpf_decode.specs.declared.opcode.SourceKind.TheVariants.{K, X}
use Rattle.bpf_decode.specs.declared.slot.Slot.{Slot}
use Rattle.bpf_decode.specs.declared.refusal.DecodeFault.{DecodeFault}
use Rattle.bpf_decode.specs.Opcodes.{opcode_of}
use Rattle.bpf_decode.specs.declared.insn.Source.TheVariants as source
use Rattle.bpf_decode.specs.Encoding.{EncodesAt, IsAt, IsBehind, insn_slots}
use Rattle.bpf_decode.specs.Faults.{FaultyAt, fault_of, slot_fault}
use Rattle.bpf_decode.specs.Parts.{Reads}
use Rattle.bpf_decode.specs.Opcodes.{opcode_byte}
use Rattle.bpf_decode.proofs.Instructions.{fields, first_is, opcode_again, opcode_right}
use Rattle.bpf_decode.proofs.Encodings.{read_encodes}
use Rattle.bpf_decode.proofs.Deciding.{AreBytes, behind_at, opcode_right_of}

module _ (s : Slot) (b : Option Slot) (x : Insn) (r : Reads s b x) where
  byte : opcode_byte (fields x).opcode ≡ s.opcode
  byte = sym (ap (λ (t : Slot). t.opcode) (first_is x)) ∙ ap (λ (t : Slot). t.opcode) r.first

  -- the wide opcode has two slots
  pub wide_slots : s.opcode ≡ 24 → length (insn_slots x) ≡ 2
  wide_slots wide = two x (some_is (sym (opcode_again (fields x).opcode (opcode_right x r.in_range)) ∙ ap opcode_of (byte ∙ wide))) where
    some_is : {o p : Opcode} → Some o ≡ Some p → o ≡ p
    some_is e = cc

    two : (y : Insn) → (fields y).opcode ≡ opcode.LoadImm → length (insn_slots y) ≡ 2
    two (insn.LoadImm dst value) e = refl
    two (insn.Alu width op dst (source.Imm value)) e = absurd cc
    two (insn.Alu width op dst (source.Reg src)) e = absurd cc
    two (insn.Swap kind width dst) e = absurd cc
    two (insn.Load size signed dst base offset) e = absurd cc
    two (insn.StoreImm size base offset imm) e = absurd cc
    two (insn.Store size base offset src) e = absurd cc
    two (insn.Jump offset) e = absurd cc
    two (insn.JumpLong offset) e = absurd cc
    two (insn.Test narrow test dst (source.Imm value) offset) e = absurd cc
    two (insn.Test narrow test dst (source.Reg src) offset) e = absurd cc
    two (insn.CallHelper helper) e = absurd cc
    two (insn.CallLocal offset) e = absurd cc
    two insn.Exit e = absurd cc

  -- every other one has one
  pub narrow_slots : (s.opcode ≡ 24 → ⊥) → length (insn_slots x) ≡ 1
  narrow_slots narrow = one x byte where
    one : (y : Insn) → opcode_byte (fields y).opcode ≡ s.opcode → length (insn_slots y) ≡ 1
    one (insn.LoadImm dst value) e = absurd (narrow (sym e))
    one (insn.Alu width op dst src) e = refl
    one (insn.Swap kind width dst) e = refl
    one (insn.Load size signed dst base offset) e = refl
    one (insn.StoreImm size base offset imm) e = refl
    one (insn.Store size base offset src) e = refl
    one (insn.Jump offset) e = refl
    one (insn.JumpLong offset) e = refl
    one (insn.Test narrow test dst src offset) e = refl
    one (insn.CallHelper helper) e = refl
    one (insn.CallLocal offset) e = refl
    one insn.Exit e = refl

module _ (s : Slot) (b : Option Slot) (narrow : s.opcode ≡ 24 → ⊥) where
  pub narrow_fault : slot_fault s None ≡ slot_fault s b
  narrow_fault = same (opcode_of s.opcode) refl where
    same : (o : Option Opcode) → opcode_of s.opcode ≡ o → fault_of o s None ≡ fault_of o s b
    same None e = refl
    same (Some opcode.LoadImm) e = absurd (narrow (sym (opcode_right_of s.opcode opcode.LoadImm e).0))
    same (Some (opcode.Alu width operation K)) e = refl
    same (Some (opcode.Alu width operation X)) e = refl
    same (Some (opcode.Swap kind)) e = refl
    same (Some (opcode.Load size signed)) e = refl
    same (Some (opcode.StoreImm size)) e = refl
    same (Some (opcode.Store size)) e = refl
    same (Some opcode.Jump) e = refl
    same (Some opcode.JumpLong) e = refl
    same (Some (opcode.Test narrow test K)) e = refl
    same (Some (opcode.Test narrow test X)) e = refl
    same (Some opcode.Call) e = refl
    same (Some opcode.Exit) e = refl

  pub narrow_reads : (x : Insn) → Reads s None x → Reads s b x
  narrow_reads (insn.LoadImm dst value) r = absurd (narrow (sym (ap (λ (t : Slot). t.opcode) r.first)))
  narrow_reads _ r = record { in_range = r.in_range; first = r.first; others = refl }

module _ (bytes : List ℕ) (small : AreBytes bytes) (k : ℕ) (inside : 8 * k + 8 ≤ length bytes) (whole : length bytes % 8 ≡ 0) where
  -- what is behind a slot
  behind_is : (b : Option Slot) × IsBehind bytes k b
  behind_is =
      let w = behind_at bytes small (length bytes / 8) (omega (arith, whole)) k (omega (arith, inside, whole)) in
      (w.0, w.1)

  module _ (s : Slot) (at : IsAt bytes k s) (narrow : s.opcode ≡ 24 → ⊥) (none : Option Slot) (is : none ≡ None) where
    pub narrow_encodes : (x : Insn) → Reads s none x → EncodesAt bytes k x
    narrow_encodes x r =
        let b = behind_is in
        read_encodes bytes k s b.0 x at b.1 (narrow_reads s b.0 narrow x (subst (λ (o : Option Slot). Reads s o x) is r))

    pub narrow_faulty : (f : DecodeFault) → slot_fault s none ≡ Some f → FaultyAt bytes f k
    narrow_faulty f e =
        let b = behind_is in
        record {
          slot = s;
          behind = b.0;
          is_at = at;
          is_behind = b.1;
          fault_is = sym (narrow_fault s b.0 narrow) ∙ subst (λ (o : Option Slot). slot_fault s o ≡ Some f) is e;
        }
