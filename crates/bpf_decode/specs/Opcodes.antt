-- Statement: opcode bytes and what they stand for (RFC 9669, 3.1, 4 and 5). A byte is its class in the low three bits;
-- above it stand the source and the operation (arithmetic and jumps), or the size and the mode (loads and stores).
use Rattle.std.specs.Prelude.{ℕ, ◌+◌, ◌*◌, ◌/◌, ◌%◌, ◌==◌, ℤ, pos, Bool, true, false, not, ◌&&◌, ◌||◌, nat_lt, if◌then◌else◌, List, [], ◌∷◌, length, Option, Some, None, find}
use Rattle.std.specs.Option.{option_map, option_or}
use Rattle.std.specs.Ordering.{int_eq}
use Rattle.bpf_num.specs.Bind.{◌>>=◌}
use Rattle.bpf_num.specs.declared.AluOp.{AluOp}
use Rattle.bpf_num.specs.declared.AluOp.TheVariants as op
use Rattle.bpf_num.specs.declared.AluWidth.{AluWidth}
use Rattle.bpf_num.specs.declared.AluWidth.TheVariants.{W32, W64}
use Rattle.bpf_num.specs.declared.swap.SwapKind.TheVariants as swap
use Rattle.bpf_num.specs.declared.swap.Width.{Width}
use Rattle.bpf_num.specs.declared.swap.Width.TheVariants as width
use Rattle.bpf_num.specs.ByteSwap.{swap_bits}
use Rattle.bpf_num.specs.declared.jump.Test.{Test}
use Rattle.bpf_num.specs.declared.jump.Test.TheVariants.{Jeq, Jgt, Jge, Jset, Jne, Jsgt, Jsge, Jlt, Jle, Jslt, Jsle}
use Rattle.bpf_decode.specs.declared.insn.Size.{Size}
use Rattle.bpf_decode.specs.declared.insn.Size.TheVariants.{B, H, W, Dw}
use Rattle.bpf_decode.specs.declared.opcode.Opcode.{Opcode}
use Rattle.bpf_decode.specs.declared.opcode.Opcode.TheVariants as opcode
use Rattle.bpf_decode.specs.declared.opcode.Operation.{Operation}
use Rattle.bpf_decode.specs.declared.opcode.Operation.TheVariants.{Add, Sub, Mul, Div, Or, And, Lsh, Rsh, Neg, Mod, Xor, Mov, Arsh}
use Rattle.bpf_decode.specs.declared.opcode.SourceKind.{SourceKind}
use Rattle.bpf_decode.specs.declared.opcode.SourceKind.TheVariants.{K, X}

-- The class of arithmetic, ALU and ALU64. (RFC 9669, 3.3)
abbrev pub class_bits : AluWidth → ℕ
class_bits W32 = 0x4
class_bits W64 = 0x7

-- The class of tests: JMP, and JMP32 of the narrow ones. (RFC 9669, 3.3)
abbrev pub jump_class : Bool → ℕ
jump_class false = 0x5
jump_class true = 0x6

-- The source of the second operand, the bit above the class. (RFC 9669, 4)
abbrev pub source_bit : SourceKind → ℕ
source_bit K = 0
source_bit X = 1

abbrev pub is_immediate : SourceKind → Bool
is_immediate K = true
is_immediate X = false

-- The operation of arithmetic, the high four bits. (RFC 9669, 4.1)
abbrev pub operation_bits : Operation → ℕ
operation_bits Add = 0x0
operation_bits Sub = 0x1
operation_bits Mul = 0x2
operation_bits Div = 0x3
operation_bits Or = 0x4
operation_bits And = 0x5
operation_bits Lsh = 0x6
operation_bits Rsh = 0x7
operation_bits Neg = 0x8
operation_bits Mod = 0x9
operation_bits Xor = 0xa
operation_bits Mov = 0xb
operation_bits Arsh = 0xc

-- The operation of a byte swap, whatever its kind. (RFC 9669, 4.2)
abbrev pub swap_operation : ℕ
swap_operation = 0xd

-- The test of a jump, the high four bits. (RFC 9669, 4.3)
abbrev pub test_bits : Test → ℕ
test_bits Jeq = 0x1
test_bits Jgt = 0x2
test_bits Jge = 0x3
test_bits Jset = 0x4
test_bits Jne = 0x5
test_bits Jsgt = 0x6
test_bits Jsge = 0x7
test_bits Jlt = 0xa
test_bits Jle = 0xb
test_bits Jslt = 0xc
test_bits Jsle = 0xd

-- The size of a load or a store, the two bits above the class. (RFC 9669, 5)
abbrev pub size_bits : Size → ℕ
size_bits W = 0
size_bits H = 1
size_bits B = 2
size_bits Dw = 3

-- The mode, the high three bits: MEM, and MEMSX of loads that extend a sign. (RFC 9669, 5)
abbrev pub mode_bits : Bool → ℕ
mode_bits false = 3
mode_bits true = 4

-- The byte of a class, a source and an operation. (RFC 9669, 4)
abbrev pub operation_byte : ℕ → ℕ → ℕ → ℕ
operation_byte class source operation = 16 * operation + 8 * source + class

-- The byte of a class, a size and a mode. (RFC 9669, 5)
abbrev pub memory_byte : ℕ → ℕ → ℕ → ℕ
memory_byte class size mode = 32 * mode + 8 * size + class

-- The byte of an opcode: JA, CALL and EXIT are the operations 0, 8 and 9 of jumps. (RFC 9669, 3.1, 4 and 5)
abbrev pub opcode_byte : Opcode → ℕ
opcode_byte (opcode.Alu width operation source) =
    operation_byte (class_bits width) (source_bit source) (operation_bits operation)
opcode_byte (opcode.Swap swap.Le) = operation_byte 0x4 0 swap_operation
opcode_byte (opcode.Swap swap.Be) = operation_byte 0x4 1 swap_operation
opcode_byte (opcode.Swap swap.Swap) = operation_byte 0x7 0 swap_operation
opcode_byte opcode.LoadImm = memory_byte 0x0 3 0
opcode_byte (opcode.Load size signed) = memory_byte 0x1 (size_bits size) (mode_bits signed)
opcode_byte (opcode.StoreImm size) = memory_byte 0x2 (size_bits size) (mode_bits false)
opcode_byte (opcode.Store size) = memory_byte 0x3 (size_bits size) (mode_bits false)
opcode_byte opcode.Jump = operation_byte 0x5 0 0x0
opcode_byte opcode.JumpLong = operation_byte 0x6 0 0x0
opcode_byte (opcode.Test narrow test source) =
    operation_byte (jump_class narrow) (source_bit source) (test_bits test)
opcode_byte opcode.Call = operation_byte 0x5 0 0x8
opcode_byte opcode.Exit = operation_byte 0x5 0 0x9

-- What the tables have, a list for each.
abbrev pub widths : List AluWidth
widths = W32 ∷ W64 ∷ []

abbrev pub sources : List SourceKind
sources = K ∷ X ∷ []

-- The operations of two operands: all but NEG.
abbrev pub operations : List Operation
operations = Add ∷ Sub ∷ Mul ∷ Div ∷ Or ∷ And ∷ Lsh ∷ Rsh ∷ Mod ∷ Xor ∷ Mov ∷ Arsh ∷ []

abbrev pub narrows : List Bool
narrows = false ∷ true ∷ []

abbrev pub tests : List Test
tests = Jeq ∷ Jgt ∷ Jge ∷ Jset ∷ Jne ∷ Jsgt ∷ Jsge ∷ Jlt ∷ Jle ∷ Jslt ∷ Jsle ∷ []

abbrev pub sizes : List Size
sizes = W ∷ H ∷ B ∷ Dw ∷ []

-- The sizes that a sign is extended from.
abbrev pub short_sizes : List Size
short_sizes = W ∷ H ∷ B ∷ []

-- The opcodes that are one byte each: those without a second operand, a test or a size.
abbrev pub single_opcodes : List Opcode
single_opcodes =
    opcode.LoadImm ∷ opcode.Jump ∷ opcode.JumpLong ∷ opcode.Call ∷ opcode.Exit
    ∷ opcode.Alu W32 Neg K ∷ opcode.Alu W64 Neg K
    ∷ opcode.Swap swap.Le ∷ opcode.Swap swap.Be ∷ opcode.Swap swap.Swap ∷ []

-- The arithmetic opcode of a class, a source and an operation. (RFC 9669, 4.1)
abbrev pub alu_opcode : ℕ → ℕ → ℕ → Option Opcode
alu_opcode class source operation = do
  width ← find (λ w. class_bits w == class) widths
  kind ← find (λ s. source_bit s == source) sources
  operation ← find (λ o. operation_bits o == operation) operations
  Some (opcode.Alu width operation kind)

-- The opcode of a test. (RFC 9669, 4.3)
abbrev pub test_opcode : ℕ → ℕ → ℕ → Option Opcode
test_opcode class source operation = do
  narrow ← find (λ n. jump_class n == class) narrows
  kind ← find (λ s. source_bit s == source) sources
  test ← find (λ t. test_bits t == operation) tests
  Some (opcode.Test narrow test kind)

-- The opcode of a load, of a mode and a size. (RFC 9669, 5.1 and 5.2)
abbrev pub load_opcode : ℕ → ℕ → Option Opcode
load_opcode mode size =
    if mode == mode_bits false then option_map (λ s. opcode.Load s false) (find (λ s. size_bits s == size) sizes)
    else if mode == mode_bits true then option_map (λ s. opcode.Load s true) (find (λ s. size_bits s == size) short_sizes)
    else None

-- The size of a store, of a mode and a size. (RFC 9669, 5.1)
abbrev pub stored_size : ℕ → ℕ → Option Size
stored_size mode size = if mode == mode_bits false then find (λ s. size_bits s == size) sizes else None

-- The opcode of a load or a store, of a class, a mode and a size. (RFC 9669, 5)
abbrev pub memory_opcode : ℕ → ℕ → ℕ → Option Opcode
memory_opcode class mode size =
    if class == 0x1 then load_opcode mode size
    else if class == 0x2 then option_map (λ s. opcode.StoreImm s) (stored_size mode size)
    else if class == 0x3 then option_map (λ s. opcode.Store s) (stored_size mode size)
    else None

-- The opcode that a byte stands for, if it is one.
abbrev pub opcode_of : ℕ → Option Opcode
opcode_of byte =
    option_or (find (λ o. opcode_byte o == byte) single_opcodes)
    (option_or (alu_opcode (byte % 8) (byte / 8 % 2) (byte / 16))
    (option_or (test_opcode (byte % 8) (byte / 8 % 2) (byte / 16)) (memory_opcode (byte % 8) (byte / 32) (byte / 8 % 4))))

-- The operation that an instruction's opcode names; the offset tells its variants apart. (RFC 9669, 4.1)
abbrev pub operation_of : AluOp → Operation
operation_of op.Add = Add
operation_of op.Sub = Sub
operation_of op.Mul = Mul
operation_of op.Div = Div
operation_of op.Sdiv = Div
operation_of op.Or = Or
operation_of op.And = And
operation_of op.Lsh = Lsh
operation_of op.Rsh = Rsh
operation_of op.Neg = Neg
operation_of op.Mod = Mod
operation_of op.Smod = Mod
operation_of op.Xor = Xor
operation_of op.Mov = Mov
operation_of op.Movsx8 = Mov
operation_of op.Movsx16 = Mov
operation_of op.Movsx32 = Mov
operation_of op.Arsh = Arsh

-- The offset of an arithmetic instruction: 1 of signed division and modulo, and the bits whose sign a move
-- extends. (RFC 9669, 4.1)
abbrev pub offset_of : AluOp → ℤ
offset_of op.Sdiv = pos 1
offset_of op.Smod = pos 1
offset_of op.Movsx8 = pos 8
offset_of op.Movsx16 = pos 16
offset_of op.Movsx32 = pos 32
offset_of _ = pos 0

-- The variants of an operation that offsets tell apart; of the other operations the offset has no use. (RFC 9669, 4.1)
abbrev pub variants : Operation → List AluOp
variants Div = op.Div ∷ op.Sdiv ∷ []
variants Mod = op.Mod ∷ op.Smod ∷ []
variants Mov = op.Mov ∷ op.Movsx8 ∷ op.Movsx16 ∷ op.Movsx32 ∷ []
variants Add = op.Add ∷ []
variants Sub = op.Sub ∷ []
variants Mul = op.Mul ∷ []
variants Or = op.Or ∷ []
variants And = op.And ∷ []
variants Lsh = op.Lsh ∷ []
variants Rsh = op.Rsh ∷ []
variants Neg = op.Neg ∷ []
variants Xor = op.Xor ∷ []
variants Arsh = op.Arsh ∷ []

-- Whether an operation of a class has a second operand of a kind: NEG none (its source bit is K); moves that extend
-- a sign a register, those of 32 bits in class ALU64 alone. (RFC 9669, 4.1)
abbrev pub has_form : AluWidth → AluOp → SourceKind → Bool
has_form width op.Neg source = is_immediate source
has_form width op.Movsx8 source = not (is_immediate source)
has_form width op.Movsx16 source = not (is_immediate source)
has_form W32 op.Movsx32 source = false
has_form W64 op.Movsx32 source = not (is_immediate source)
has_form width op.Add source = true
has_form width op.Sub source = true
has_form width op.Mul source = true
has_form width op.Div source = true
has_form width op.Sdiv source = true
has_form width op.Or source = true
has_form width op.And source = true
has_form width op.Lsh source = true
has_form width op.Rsh source = true
has_form width op.Mod source = true
has_form width op.Smod source = true
has_form width op.Xor source = true
has_form width op.Mov source = true
has_form width op.Arsh source = true

-- Whether an operation has variants that offsets tell apart. (RFC 9669, 4.1)
abbrev pub uses_offset : Operation → Bool
uses_offset operation = nat_lt 1 (length (variants operation))

-- The variant of an operation that has this offset and form, if one does. (RFC 9669, 4.1)
abbrev pub variant_of : AluWidth → Operation → SourceKind → ℤ → Option AluOp
variant_of width operation source offset =
    find (λ o. (not (uses_offset operation) || int_eq (offset_of o) offset) && has_form width o source) (variants operation)

-- Whether an operation has a second operand: all but NEG. (RFC 9669, 4.1)
abbrev pub has_operand : Operation → Bool
has_operand operation = not (operation_bits operation == operation_bits Neg)

-- The widths of byte swaps.
abbrev pub swap_widths : List Width
swap_widths = width.W16 ∷ width.W32 ∷ width.W64 ∷ []

-- The width that the immediate of a byte swap names. (RFC 9669, 4.2)
abbrev pub swap_width : ℤ → Option Width
swap_width imm = find (λ w. int_eq (pos (swap_bits w)) imm) swap_widths
