-- The word of each instruction names its form again.
use Rattle.std.proofs.Common.{◌≡◌, Bool, true, false, Some, refl}
use Rattle.bpf_num.specs.declared.AluOp.{AluOp}
use Rattle.bpf_num.specs.declared.AluOp.TheVariants as op
use Rattle.bpf_num.specs.declared.AluWidth.{AluWidth}
use Rattle.bpf_num.specs.declared.AluWidth.TheVariants as alu
use Rattle.bpf_num.specs.declared.swap.SwapKind.{SwapKind}
use Rattle.bpf_num.specs.declared.swap.SwapKind.TheVariants as swap
use Rattle.bpf_num.specs.declared.swap.Width.{Width}
use Rattle.bpf_num.specs.declared.swap.Width.TheVariants as width
use Rattle.bpf_num.specs.declared.jump.Test.{Test}
use Rattle.bpf_num.specs.declared.jump.Test.TheVariants as test
use Rattle.bpf_decode.specs.declared.insn.Insn.{Insn}
use Rattle.bpf_decode.specs.declared.insn.Insn.TheVariants as insn
use Rattle.bpf_decode.specs.declared.insn.Size.{Size}
use Rattle.bpf_decode.specs.declared.insn.Size.TheVariants as size
use Rattle.bpf_decode.specs.declared.insn.Source.TheVariants as source
use Rattle.bpf_decode.specs.declared.opcode.SourceKind.{SourceKind}
use Rattle.bpf_decode.specs.Opcodes.{has_form}
use Rattle.bpf_decode.specs.Encoding.{IsInsn, IsLoad}
use Rattle.bpf_asm.specs.declared.form.Form.TheVariants as form
use Rattle.bpf_asm.specs.Words.{word_of, form_of_word}
use Rattle.bpf_asm.specs.Operands.{signed}
use Rattle.bpf_asm.specs.Printing.{form_of, alu_form}

-- Each word names its form.
alu_found : (o : AluOp) (w : AluWidth) (k : SourceKind) → has_form w o k ≡ true → form_of_word (word_of (alu_form o w)) ≡ Some (alu_form o w)
alu_found op.Add alu.W64 k h = refl
alu_found op.Add alu.W32 k h = refl
alu_found op.Sub alu.W64 k h = refl
alu_found op.Sub alu.W32 k h = refl
alu_found op.Mul alu.W64 k h = refl
alu_found op.Mul alu.W32 k h = refl
alu_found op.Div alu.W64 k h = refl
alu_found op.Div alu.W32 k h = refl
alu_found op.Sdiv alu.W64 k h = refl
alu_found op.Sdiv alu.W32 k h = refl
alu_found op.Or alu.W64 k h = refl
alu_found op.Or alu.W32 k h = refl
alu_found op.And alu.W64 k h = refl
alu_found op.And alu.W32 k h = refl
alu_found op.Lsh alu.W64 k h = refl
alu_found op.Lsh alu.W32 k h = refl
alu_found op.Rsh alu.W64 k h = refl
alu_found op.Rsh alu.W32 k h = refl
alu_found op.Neg alu.W64 k h = refl
alu_found op.Neg alu.W32 k h = refl
alu_found op.Mod alu.W64 k h = refl
alu_found op.Mod alu.W32 k h = refl
alu_found op.Smod alu.W64 k h = refl
alu_found op.Smod alu.W32 k h = refl
alu_found op.Xor alu.W64 k h = refl
alu_found op.Xor alu.W32 k h = refl
alu_found op.Mov alu.W64 k h = refl
alu_found op.Mov alu.W32 k h = refl
alu_found op.Movsx8 alu.W64 k h = refl
alu_found op.Movsx8 alu.W32 k h = refl
alu_found op.Movsx16 alu.W64 k h = refl
alu_found op.Movsx16 alu.W32 k h = refl
alu_found op.Movsx32 alu.W64 k h = refl
alu_found op.Movsx32 alu.W32 k h = cc
alu_found op.Arsh alu.W64 k h = refl
alu_found op.Arsh alu.W32 k h = refl

swap_found : (k : SwapKind) (w : Width) → form_of_word (word_of (form.Swap k w)) ≡ Some (form.Swap k w)
swap_found swap.Le width.W16 = refl
swap_found swap.Le width.W32 = refl
swap_found swap.Le width.W64 = refl
swap_found swap.Be width.W16 = refl
swap_found swap.Be width.W32 = refl
swap_found swap.Be width.W64 = refl
swap_found swap.Swap width.W16 = refl
swap_found swap.Swap width.W32 = refl
swap_found swap.Swap width.W64 = refl

load_found : (s : Size) (signed : Bool) → IsLoad s signed → form_of_word (word_of (form.Load s signed)) ≡ Some (form.Load s signed)
load_found size.B false h = refl
load_found size.H false h = refl
load_found size.W false h = refl
load_found size.Dw false h = refl
load_found size.B true h = refl
load_found size.H true h = refl
load_found size.W true h = refl
load_found size.Dw true h = absurd h

store_number_found : (s : Size) → form_of_word (word_of (form.StoreImm s)) ≡ Some (form.StoreImm s)
store_number_found size.B = refl
store_number_found _ = refl

store_found : (s : Size) → form_of_word (word_of (form.Store s)) ≡ Some (form.Store s)
store_found size.B = refl
store_found _ = refl

test_found : (t : Test) (narrow : Bool) → form_of_word (word_of (form.Test t narrow)) ≡ Some (form.Test t narrow)
test_found test.Jeq false = refl
test_found test.Jeq true = refl
test_found test.Jgt false = refl
test_found test.Jgt true = refl
test_found test.Jge false = refl
test_found test.Jge true = refl
test_found test.Jset false = refl
test_found test.Jset true = refl
test_found test.Jne false = refl
test_found test.Jne true = refl
test_found test.Jsgt false = refl
test_found test.Jsgt true = refl
test_found test.Jsge false = refl
test_found test.Jsge true = refl
test_found test.Jlt false = refl
test_found test.Jlt true = refl
test_found test.Jle false = refl
test_found test.Jle true = refl
test_found test.Jslt false = refl
test_found test.Jslt true = refl
test_found test.Jsle false = refl
test_found test.Jsle true = refl

pub word_found : (x : Insn) → IsInsn x → form_of_word (word_of (form_of x)) ≡ Some (form_of x)
word_found (insn.Alu w o dst (source.Imm v)) h = alu_found o w _ h.0
word_found (insn.Alu w o dst (source.Reg r)) h = alu_found o w _ h
word_found (insn.Swap k w dst) h = swap_found k w
word_found (insn.LoadImm dst value) h = refl
word_found (insn.Load s signed dst base offset) h = load_found s signed h.0
word_found (insn.StoreImm s base offset imm) h = store_number_found s
word_found (insn.Store s base offset src) h = store_found s
word_found (insn.Jump offset) h = refl
word_found (insn.JumpLong offset) h = refl
word_found (insn.Test narrow t dst src offset) h = test_found t narrow
word_found (insn.CallHelper helper) h = refl
word_found (insn.CallLocal offset) h = refl
word_found insn.Exit h = refl
