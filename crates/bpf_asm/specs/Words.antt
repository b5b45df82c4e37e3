-- Statement: the forms of instructions, and the word that each is written with. Each word names one form.
use Rattle.std.specs.Prelude.{ℕ, Bool, true, false, List, [], ◌∷◌, Option, codes, find}
use Rattle.std.specs.Str.{bytes_eq}
use Rattle.bpf_num.specs.declared.AluOp.{AluOp}
use Rattle.bpf_num.specs.declared.AluOp.TheVariants as op
use Rattle.bpf_num.specs.declared.AluWidth.{AluWidth}
use Rattle.bpf_num.specs.declared.AluWidth.TheVariants as alu
use Rattle.bpf_num.specs.declared.swap.SwapKind.{SwapKind}
use Rattle.bpf_num.specs.declared.swap.SwapKind.TheVariants as swap
use Rattle.bpf_num.specs.declared.swap.Width.{Width}
use Rattle.bpf_num.specs.declared.swap.Width.TheVariants as width
use Rattle.bpf_num.specs.declared.jump.Test.{Test}
use Rattle.bpf_num.specs.declared.jump.Test.TheVariants as test
use Rattle.bpf_decode.specs.declared.insn.Size.{Size}
use Rattle.bpf_decode.specs.declared.insn.Size.TheVariants as size
use Rattle.bpf_asm.specs.declared.form.Form.{Form}
use Rattle.bpf_asm.specs.declared.form.Form.TheVariants as form

-- Arithmetic of 64 bits. (RFC 9669, 4.1)
abbrev pub wide_word : AluOp → List ℕ
wide_word op.Add = codes "add64"
wide_word op.Sub = codes "sub64"
wide_word op.Mul = codes "mul64"
wide_word op.Div = codes "div64"
wide_word op.Sdiv = codes "sdiv64"
wide_word op.Or = codes "or64"
wide_word op.And = codes "and64"
wide_word op.Lsh = codes "lsh64"
wide_word op.Rsh = codes "rsh64"
wide_word op.Neg = codes "neg64"
wide_word op.Mod = codes "mod64"
wide_word op.Smod = codes "smod64"
wide_word op.Xor = codes "xor64"
wide_word op.Mov = codes "mov64"
wide_word op.Movsx8 = codes "movsx8_64"
wide_word op.Movsx16 = codes "movsx16_64"
wide_word op.Movsx32 = codes "movsx32_64"
wide_word op.Arsh = codes "arsh64"

-- Arithmetic of 32 bits; there is no move of 32 bits that extends a sign of 32, so that row is no word. (RFC 9669, 4.1)
abbrev pub narrow_word : AluOp → List ℕ
narrow_word op.Add = codes "add32"
narrow_word op.Sub = codes "sub32"
narrow_word op.Mul = codes "mul32"
narrow_word op.Div = codes "div32"
narrow_word op.Sdiv = codes "sdiv32"
narrow_word op.Or = codes "or32"
narrow_word op.And = codes "and32"
narrow_word op.Lsh = codes "lsh32"
narrow_word op.Rsh = codes "rsh32"
narrow_word op.Neg = codes "neg32"
narrow_word op.Mod = codes "mod32"
narrow_word op.Smod = codes "smod32"
narrow_word op.Xor = codes "xor32"
narrow_word op.Mov = codes "mov32"
narrow_word op.Movsx8 = codes "movsx8_32"
narrow_word op.Movsx16 = codes "movsx16_32"
narrow_word op.Movsx32 = codes "movsx32_32"
narrow_word op.Arsh = codes "arsh32"

abbrev pub alu_word : AluOp → AluWidth → List ℕ
alu_word o alu.W64 = wide_word o
alu_word o alu.W32 = narrow_word o

-- Byte swaps. (RFC 9669, 4.2)
abbrev pub swap_word : SwapKind → Width → List ℕ
swap_word swap.Le width.W16 = codes "le16"
swap_word swap.Le width.W32 = codes "le32"
swap_word swap.Le width.W64 = codes "le64"
swap_word swap.Be width.W16 = codes "be16"
swap_word swap.Be width.W32 = codes "be32"
swap_word swap.Be width.W64 = codes "be64"
swap_word swap.Swap width.W16 = codes "swap16"
swap_word swap.Swap width.W32 = codes "swap32"
swap_word swap.Swap width.W64 = codes "swap64"

-- Loads, zero-extended and sign-extended; the last row is no word. (RFC 9669, 5.1 and 5.2)
abbrev pub load_word : Size → Bool → List ℕ
load_word size.B false = codes "ldxb"
load_word size.H false = codes "ldxh"
load_word size.W false = codes "ldxw"
load_word size.Dw false = codes "ldxdw"
load_word size.B true = codes "ldsxb"
load_word size.H true = codes "ldsxh"
load_word size.W true = codes "ldsxw"
load_word size.Dw true = []

-- Stores of a number and of a register. (RFC 9669, 5.1)
abbrev pub store_number_word : Size → List ℕ
store_number_word size.B = codes "stb"
store_number_word size.H = codes "sth"
store_number_word size.W = codes "stw"
store_number_word size.Dw = codes "stdw"

abbrev pub store_word : Size → List ℕ
store_word size.B = codes "stxb"
store_word size.H = codes "stxh"
store_word size.W = codes "stxw"
store_word size.Dw = codes "stxdw"

-- Tests of whole registers and, narrow, of low halves. (RFC 9669, 4.3)
abbrev pub test_word : Test → Bool → List ℕ
test_word test.Jeq false = codes "jeq"
test_word test.Jgt false = codes "jgt"
test_word test.Jge false = codes "jge"
test_word test.Jset false = codes "jset"
test_word test.Jne false = codes "jne"
test_word test.Jsgt false = codes "jsgt"
test_word test.Jsge false = codes "jsge"
test_word test.Jlt false = codes "jlt"
test_word test.Jle false = codes "jle"
test_word test.Jslt false = codes "jslt"
test_word test.Jsle false = codes "jsle"
test_word test.Jeq true = codes "jeq32"
test_word test.Jgt true = codes "jgt32"
test_word test.Jge true = codes "jge32"
test_word test.Jset true = codes "jset32"
test_word test.Jne true = codes "jne32"
test_word test.Jsgt true = codes "jsgt32"
test_word test.Jsge true = codes "jsge32"
test_word test.Jlt true = codes "jlt32"
test_word test.Jle true = codes "jle32"
test_word test.Jslt true = codes "jslt32"
test_word test.Jsle true = codes "jsle32"

-- The word of a form.
abbrev pub word_of : Form → List ℕ
word_of (form.Alu o w) = alu_word o w
word_of (form.Neg w) = alu_word op.Neg w
word_of (form.Extend o w) = alu_word o w
word_of (form.Swap kind w) = swap_word kind w
word_of form.LoadImm = codes "lddw"
word_of (form.Load s signed) = load_word s signed
word_of (form.StoreImm s) = store_number_word s
word_of (form.Store s) = store_word s
word_of form.Jump = codes "ja"
word_of form.JumpLong = codes "ja32"
word_of (form.Test t narrow) = test_word t narrow
word_of form.CallHelper = codes "call"
word_of form.CallLocal = codes "callf"
word_of form.Exit = codes "exit"

-- All forms. `movsx` is one of its own, since it takes a register alone.
abbrev pub forms : List Form
forms =
    form.Alu op.Add alu.W64 ∷ form.Alu op.Add alu.W32 ∷ form.Alu op.Sub alu.W64 ∷ form.Alu op.Sub alu.W32 ∷ form.Alu op.Mul alu.W64 ∷ form.Alu op.Mul alu.W32 ∷ form.Alu op.Div alu.W64 ∷ form.Alu op.Div alu.W32 ∷ form.Alu op.Sdiv alu.W64 ∷ form.Alu op.Sdiv alu.W32 ∷ form.Alu op.Or alu.W64 ∷ form.Alu op.Or alu.W32 ∷ form.Alu op.And alu.W64 ∷ form.Alu op.And alu.W32 ∷ form.Alu op.Lsh alu.W64 ∷ form.Alu op.Lsh alu.W32 ∷ form.Alu op.Rsh alu.W64 ∷ form.Alu op.Rsh alu.W32 ∷ form.Alu op.Mod alu.W64 ∷ form.Alu op.Mod alu.W32 ∷ form.Alu op.Smod alu.W64 ∷ form.Alu op.Smod alu.W32 ∷ form.Alu op.Xor alu.W64 ∷ form.Alu op.Xor alu.W32 ∷ form.Alu op.Mov alu.W64 ∷ form.Alu op.Mov alu.W32 ∷ form.Alu op.Arsh alu.W64 ∷ form.Alu op.Arsh alu.W32 ∷ form.Neg alu.W64 ∷ form.Neg alu.W32 ∷ form.Extend op.Movsx8 alu.W64 ∷ form.Extend op.Movsx16 alu.W64 ∷ form.Extend op.Movsx32 alu.W64 ∷ form.Extend op.Movsx8 alu.W32 ∷ form.Extend op.Movsx16 alu.W32 ∷ form.Swap swap.Le width.W16 ∷ form.Swap swap.Le width.W32 ∷ form.Swap swap.Le width.W64 ∷ form.Swap swap.Be width.W16 ∷ form.Swap swap.Be width.W32 ∷ form.Swap swap.Be width.W64 ∷ form.Swap swap.Swap width.W16 ∷ form.Swap swap.Swap width.W32 ∷ form.Swap swap.Swap width.W64 ∷ form.LoadImm ∷ form.Load size.B false ∷ form.Load size.H false ∷ form.Load size.W false ∷ form.Load size.Dw false ∷ form.Load size.B true ∷ form.Load size.H true ∷ form.Load size.W true ∷ form.StoreImm size.B ∷ form.StoreImm size.H ∷ form.StoreImm size.W ∷ form.StoreImm size.Dw ∷ form.Store size.B ∷ form.Store size.H ∷ form.Store size.W ∷ form.Store size.Dw ∷ form.Jump ∷ form.JumpLong ∷ form.Test test.Jeq false ∷ form.Test test.Jgt false ∷ form.Test test.Jge false ∷ form.Test test.Jset false ∷ form.Test test.Jne false ∷ form.Test test.Jsgt false ∷ form.Test test.Jsge false ∷ form.Test test.Jlt false ∷ form.Test test.Jle false ∷ form.Test test.Jslt false ∷ form.Test test.Jsle false ∷ form.Test test.Jeq true ∷ form.Test test.Jgt true ∷ form.Test test.Jge true ∷ form.Test test.Jset true ∷ form.Test test.Jne true ∷ form.Test test.Jsgt true ∷ form.Test test.Jsge true ∷ form.Test test.Jlt true ∷ form.Test test.Jle true ∷ form.Test test.Jslt true ∷ form.Test test.Jsle true ∷ form.CallHelper ∷ form.CallLocal ∷ form.Exit ∷ []

-- The form that a word names, if it names one.
abbrev pub form_of_word : List ℕ → Option Form
form_of_word word = find (λ f. bytes_eq (word_of f) word) forms
