-- Internal: what holds of an opcode that a byte stands for, and an instruction beside the slots that it is read from.
use Rattle.std.specs.Prelude.{◌≡◌, true, List, [], ◌∷◌, length, take, Option, Some, None}
use Rattle.bpf_decode.specs.declared.insn.Insn.{Insn}
use Rattle.bpf_decode.specs.declared.opcode.Opcode.{Opcode}
use Rattle.bpf_decode.specs.declared.opcode.Opcode.TheVariants.{Alu, Swap, LoadImm, Load, StoreImm, Store, Jump, JumpLong, Test, Call, Exit}
use Rattle.bpf_decode.specs.declared.opcode.SourceKind.TheVariants.{K, X}
use Rattle.bpf_decode.specs.declared.slot.Slot.{Slot}
use Rattle.bpf_decode.specs.Opcodes.{has_operand}
use Rattle.bpf_decode.specs.Encoding.{IsLoad, IsInsn, first_slot, other_slots}

-- An opcode that has a byte of its own: NEG has no source X, and a load of 8 bytes extends no sign.
abbrev pub IsOpcode : Opcode → Type 0
IsOpcode (Alu width operation K) = Unit {0}
IsOpcode (Alu width operation X) = has_operand operation ≡ true
IsOpcode (Swap kind) = Unit {0}
IsOpcode LoadImm = Unit {0}
IsOpcode (Load size signed) = IsLoad size signed
IsOpcode (StoreImm size) = Unit {0}
IsOpcode (Store size) = Unit {0}
IsOpcode Jump = Unit {0}
IsOpcode JumpLong = Unit {0}
IsOpcode (Test narrow test source) = Unit {0}
IsOpcode Call = Unit {0}
IsOpcode Exit = Unit {0}

abbrev pub slot_list : Option Slot → List Slot
slot_list None = []
slot_list (Some slot) = slot ∷ []

-- An instruction whose first slot this is; the others are those behind it.
pub record Reads (slot : Slot) (behind : Option Slot) (insn : Insn) : Type 0 where
  pub in_range : IsInsn insn
  pub first : first_slot insn ≡ slot
  pub others : take (length (other_slots insn)) (slot_list behind) ≡ other_slots insn
