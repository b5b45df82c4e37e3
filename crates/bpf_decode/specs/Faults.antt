-- Statement: what can be wrong with a slot, and with a list of bytes as a whole; which bytes are code.
use Rattle.std.specs.Prelude.{◌≡◌, ℕ, ◌*◌, ◌%◌, Bool, false, ◌||◌, ◌&&◌, not, ◌==◌, nat_lt, if◌then◌else◌, List, length, take, Option, Some, None, is_some, ◌⊎◌, pos, ℤ}
use Rattle.std.specs.List.{AllByRecursion}
use Rattle.std.specs.Ordering.{int_eq}
use Rattle.bpf_decode.specs.declared.insn.Insn.{Insn}
use Rattle.bpf_decode.specs.declared.opcode.Opcode.{Opcode}
use Rattle.bpf_decode.specs.declared.opcode.Opcode.TheVariants.{Alu, Swap, LoadImm, Load, StoreImm, Store, Jump, JumpLong, Test, Call, Exit}
use Rattle.bpf_decode.specs.declared.opcode.SourceKind.TheVariants.{K, X}
use Rattle.bpf_decode.specs.declared.slot.Slot.{Slot}
use Rattle.bpf_decode.specs.declared.refusal.DecodeFault.{DecodeFault}
use Rattle.bpf_decode.specs.declared.refusal.DecodeFault.TheVariants.{Empty, NotSlots, TooLong, BadOpcode, BadRegister, FieldNotZero, TruncatedWide, BadWidth, BadOffset, Memory}
use Rattle.bpf_decode.specs.Opcodes.{opcode_of, variant_of, uses_offset, has_operand, swap_width}
use Rattle.bpf_decode.specs.Encoding.{IsInsn, IsAt, IsBehind, encoding}

-- The numbers by which faults are reported.
abbrev pub number_of : DecodeFault → ℕ
number_of Empty = 1
number_of NotSlots = 2
number_of TooLong = 3
number_of BadOpcode = 4
number_of BadRegister = 5
number_of FieldNotZero = 6
number_of TruncatedWide = 7
number_of BadWidth = 8
number_of BadOffset = 9
number_of Memory = 10

-- What is wrong with so many bytes, whatever they are: code has 1 to 1,024 slots of 8 bytes. (RFC 9669, 3)
abbrev pub length_fault : ℕ → Option DecodeFault
length_fault bytes =
    if bytes == 0 then Some Empty
    else if not (bytes % 8 == 0) then Some NotSlots
    else if nat_lt (8 * 1024) bytes then Some TooLong
    else None

abbrev pub is_not_zero : ℤ → Bool
is_not_zero z = not (int_eq z (pos 0))

-- Whether a wide instruction lacks its second slot: it begins in the last one. (RFC 9669, 3.2)
abbrev pub is_truncated : Opcode → Option Slot → Bool
is_truncated LoadImm behind = not (is_some behind)
is_truncated _ behind = false

-- Whether the immediate of a byte swap is none of its widths. (RFC 9669, 4.2)
abbrev pub has_bad_width : Opcode → Slot → Bool
has_bad_width (Swap kind) slot = not (is_some (swap_width slot.imm))
has_bad_width _ slot = false

-- Whether the operation has no variant of the offset, in this class and with this source. (RFC 9669, 4.1)
abbrev pub has_bad_offset : Opcode → Slot → Bool
has_bad_offset (Alu width operation source) slot = not (is_some (variant_of width operation source slot.offset))
has_bad_offset _ slot = false

-- Whether the second slot of a wide instruction holds more than its immediate. (RFC 9669, 3.2)
abbrev pub is_stray_half : Option Slot → Bool
is_stray_half None = false
is_stray_half (Some half) =
    not (half.opcode == 0) || not (half.dst == 0) || not (half.src == 0) || is_not_zero half.offset

-- Whether a field without a use is not zero: unused fields shall be cleared (RFC 9669, 3.1). Of CALL the source tells
-- helpers, 0, from local functions, 1 (RFC 9669, 4.3); constants of 64 bits have no source (RFC 9669, 5.4: 0 alone).
abbrev pub has_stray_field : Opcode → Slot → Option Slot → Bool
has_stray_field (Alu width operation K) slot behind =
    not (slot.src == 0) || (not (uses_offset operation) && is_not_zero slot.offset)
    || (not (has_operand operation) && is_not_zero slot.imm)
has_stray_field (Alu width operation X) slot behind =
    (not (uses_offset operation) && is_not_zero slot.offset) || is_not_zero slot.imm
has_stray_field (Swap kind) slot behind = not (slot.src == 0) || is_not_zero slot.offset
has_stray_field LoadImm slot behind = not (slot.src == 0) || is_not_zero slot.offset || is_stray_half behind
has_stray_field (Load size signed) slot behind = is_not_zero slot.imm
has_stray_field (StoreImm size) slot behind = not (slot.src == 0)
has_stray_field (Store size) slot behind = is_not_zero slot.imm
has_stray_field Jump slot behind = not (slot.dst == 0) || not (slot.src == 0) || is_not_zero slot.imm
has_stray_field JumpLong slot behind = not (slot.dst == 0) || not (slot.src == 0) || is_not_zero slot.offset
has_stray_field (Test narrow test K) slot behind = not (slot.src == 0)
has_stray_field (Test narrow test X) slot behind = is_not_zero slot.imm
has_stray_field Call slot behind = not (slot.dst == 0) || nat_lt 1 slot.src || is_not_zero slot.offset
has_stray_field Exit slot behind =
    not (slot.dst == 0) || not (slot.src == 0) || is_not_zero slot.offset || is_not_zero slot.imm

-- The first fault behind the registers: a second slot that lacks, a width, an offset, a stray field.
abbrev pub form_fault : Opcode → Slot → Option Slot → Option DecodeFault
form_fault opcode slot behind =
    if is_truncated opcode behind then Some TruncatedWide
    else if has_bad_width opcode slot then Some BadWidth
    else if has_bad_offset opcode slot then Some BadOffset
    else if has_stray_field opcode slot behind then Some FieldNotZero
    else None

-- The first fault behind the opcode: a register above r10 (RFC 9669, 2.1), or the form.
abbrev pub field_fault : Opcode → Slot → Option Slot → Option DecodeFault
field_fault opcode slot behind =
    if nat_lt 10 slot.dst || nat_lt 10 slot.src then Some BadRegister else form_fault opcode slot behind

abbrev pub fault_of : Option Opcode → Slot → Option Slot → Option DecodeFault
fault_of None slot behind = Some BadOpcode
fault_of (Some opcode) slot behind = field_fault opcode slot behind

-- The first fault of a slot, before the slot behind it, in the order in which they are reported.
abbrev pub slot_fault : Slot → Option Slot → Option DecodeFault
slot_fault slot behind = fault_of (opcode_of slot.opcode) slot behind

-- Bytes that are code: they encode these instructions, and are no longer than code may be.
pub record IsCode (bytes : List ℕ) (code : List Insn) : Type 0 where
  pub encoded : bytes ≡ encoding code
  pub in_range : AllByRecursion IsInsn code
  pub length_is : length_fault (length bytes) ≡ None

-- Slot k of the bytes begins no instruction, for this reason.
pub record FaultyAt (bytes : List ℕ) (fault : DecodeFault) (k : ℕ) : Type 0 where
  pub slot : Slot
  pub behind : Option Slot
  pub is_at : IsAt bytes k slot
  pub is_behind : IsBehind bytes k behind
  pub fault_is : slot_fault slot behind ≡ Some fault

-- Slots that encode instructions, and behind them the first that begins none.
pub record BreaksAt (bytes : List ℕ) (fault : DecodeFault) (k : ℕ) : Type 0 where
  pub before : List Insn
  pub in_range : AllByRecursion IsInsn before
  pub encoded : take (8 * k) bytes ≡ encoding before
  pub faulty : FaultyAt bytes fault k

-- Bytes that are no code, and the first reason: the length, reported at slot 0, or the first faulty slot.
abbrev pub IsRefused : List ℕ → DecodeFault → ℕ → Type 0
IsRefused bytes fault slot =
    (length_fault (length bytes) ≡ Some fault) × (slot ≡ 0)
    ⊎ (length_fault (length bytes) ≡ None) × BreaksAt bytes fault slot
