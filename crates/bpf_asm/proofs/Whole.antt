-- The text of instructions assembles to them.
use Rattle.std.proofs.Common.{◌≡◌, ℕ, ◌<◌, ◌≤◌, ◌-◌, ◌^◌, ◌==◌, Bool, true, false, cond, List, [], ◌∷◌, ◌++◌, length, map, None, Option, Ok, Result, ap, sym, ◌∙◌, refl, arith, ℤ, pos, negsuc, FitsSigned, slice_index, append_assoc, take}
use Rattle.std.specs.Int.{w16, w32}
use Rattle.std.specs.List.{list_all, AllByRecursion}
use Rattle.std.specs.Str.Lines.{lines, lines_of_parts, strip_carriage_return}
use Rattle.std.specs.Fmt.{decimal, signed_decimal}
use borrow.Author.Tests.{apart_eqb}
use Rattle.bpf_num.specs.declared.AluOp.{AluOp}
use Rattle.bpf_num.specs.declared.AluOp.TheVariants as op
use Rattle.bpf_num.specs.declared.AluWidth.{AluWidth}
use Rattle.bpf_num.specs.declared.AluWidth.TheVariants as alu
use Rattle.bpf_num.specs.declared.jump.Test.{Test}
use Rattle.bpf_decode.specs.declared.insn.Insn.{Insn}
use Rattle.bpf_decode.specs.declared.insn.Insn.TheVariants as insn
use Rattle.bpf_decode.specs.declared.insn.Source.{Source}
use Rattle.bpf_decode.specs.declared.insn.Source.TheVariants as source
use Rattle.bpf_decode.specs.declared.insn.Reg.{Reg}
use Rattle.bpf_decode.specs.Encoding.{IsInsn}
use Rattle.bpf_asm.specs.declared.fault.AsmKind.{AsmKind}
use Rattle.bpf_asm.specs.declared.form.Form.TheVariants as form
use Rattle.bpf_asm.specs.declared.operand.Target.{Target}
use Rattle.bpf_asm.specs.Words.{word_of}
use Rattle.bpf_asm.specs.Operands.{register, register_text, immediate, wide_immediate, target_of, second_operand, memory_operand, pair, ◌>>=◌}
use Rattle.bpf_asm.specs.Printing.{form_of, alu_form, with_sign, source_text, memory_operand_text, operands_of, alu_operands, line_text}
use Rattle.bpf_asm.specs.declared.operand.MemoryOperand.{MemoryOperand}
use Rattle.bpf_asm.specs.declared.line.Statement.{Statement}
use Rattle.bpf_asm.specs.declared.line.Statement.TheVariants as says
use Rattle.bpf_asm.specs.Lines.{line_statement, statement_of, aims}
use Rattle.bpf_asm.proofs.Plain.{line_byte, plain_line, Ends, last_at, AreOperands}
use Rattle.bpf_asm.proofs.Numbers.{register_read, wide_immediate_read, immediate_read, imm_read, reg_read, target_read, magnitude}
use Rattle.bpf_asm.proofs.Inverse.{word_found}
use Rattle.bpf_asm.specs.declared.fault.AsmFault.{AsmFault}
use Rattle.bpf_asm.specs.Printing.{printed}
use Rattle.bpf_asm.specs.Assembly.{assembly, assembly_of_lines, first_fault, first_round, reported_or, line_number, code_from, code_then, second_round, fault_or}
use Rattle.bpf_asm.proofs.Plain.{split_at, line_low}
use Rattle.bpf_asm.proofs.Positions.{part_is}
use Rattle.bpf_asm.proofs.Lined.{words_wordy, is_text, signed_text, sign_text, decimal_text, register_is_text, memory_operand_is_text, source_is_text, SourceFits, memory_operand_read, line_read, line_firm}

small_16 : (z : ℤ) → FitsSigned w16 z → magnitude z < 2 ^ 15
small_16 (pos n) h = h.sfits
small_16 (negsuc n) h = h.sfits

small_32 : (z : ℤ) → FitsSigned w32 z → magnitude z < 2 ^ 31
small_32 (pos n) h = h.sfits
small_32 (negsuc n) h = h.sfits

wide_16 : (z : ℤ) → FitsSigned w16 z → magnitude z < 2 ^ 31
wide_16 z h = let s = small_16 z h in omega arith

source_read : (s : Source) → SourceFits s → second_operand (source_text s) ≡ Ok s
source_read (source.Imm v) h = imm_read v h
source_read (source.Reg r) h = reg_read r

op1 : (x : List ℕ) → is_text x → AreOperands (x ∷ [])
op1 x h = (h.0, h.1, tt)

op2 : (x y : List ℕ) → is_text x → is_text y → AreOperands (x ∷ y ∷ [])
op2 x y h k = (h.0, h.1, (k.0, k.1, tt))

op3 : (x y z : List ℕ) → is_text x → is_text y → is_text z → AreOperands (x ∷ y ∷ z ∷ [])
op3 x y z h k l = (h.0, h.1, (k.0, k.1, (l.0, l.1, tt)))

fits_of : (a : AluOp) (w : AluWidth) (dst : Reg) (src : Source) → IsInsn (insn.Alu w a dst src) → SourceFits src
fits_of a w dst (source.Imm v) h = h.1
fits_of a w dst (source.Reg r) h = tt

alu_texts : (a : AluOp) (dst : Reg) (src : Source) → SourceFits src → AreOperands (alu_operands a dst src)
alu_texts op.Neg dst src h = op1 _ (register_is_text dst)
alu_texts _ dst src h = op2 _ _ (register_is_text dst) (source_is_text src h)

texts_good : (x : Insn) → IsInsn x → AreOperands (operands_of x)
texts_good (insn.Alu w a dst src) h = alu_texts a dst src (fits_of a w dst src h)
texts_good (insn.Swap k w dst) h = op1 _ (register_is_text dst)
texts_good (insn.LoadImm dst value) h =
    let s : value < 2 ^ 64 = h in
    op2 _ _ (register_is_text dst) (decimal_text value s)
texts_good (insn.Load s b dst base offset) h = op2 (register_text dst) (memory_operand_text base offset) (register_is_text dst) (memory_operand_is_text base offset (wide_16 offset h.1))
texts_good (insn.StoreImm s base offset imm) h = op2 (memory_operand_text base offset) (signed_decimal imm) (memory_operand_is_text base offset (wide_16 offset h.0)) (signed_text imm h.1)
texts_good (insn.Store s base offset src) h = op2 (memory_operand_text base offset) (register_text src) (memory_operand_is_text base offset (wide_16 offset h)) (register_is_text src)
texts_good (insn.Jump offset) h = op1 _ (sign_text offset (wide_16 offset h))
texts_good (insn.JumpLong offset) h = op1 _ (sign_text offset (small_32 offset h))
texts_good (insn.Test narrow t dst (source.Imm v) offset) h = op3 _ _ _ (register_is_text dst) (signed_text v h.0) (sign_text offset (wide_16 offset h.1))
texts_good (insn.Test narrow t dst (source.Reg r) offset) h = op3 _ _ _ (register_is_text dst) (register_is_text r) (sign_text offset (wide_16 offset h))
texts_good (insn.CallHelper helper) h = op1 _ (signed_text helper h)
texts_good (insn.CallLocal offset) h = op1 _ (sign_text offset (small_32 offset h))
texts_good insn.Exit h = tt

-- What each form's operands say.
alu_said : (a : AluOp) (w : AluWidth) (dst : Reg) (src : Source) → SourceFits src → statement_of (form.Alu a w) (register_text dst ∷ source_text src ∷ []) ≡ Ok (says.Insn (insn.Alu w a dst src))
alu_said a w dst src h =
    ap (λ (r : Result Reg AsmKind). pair r (second_operand (source_text src)) >>= (λ p. Ok (says.Insn (insn.Alu w a p.0 p.1)))) (register_read dst)
    ∙ ap (λ (r : Result Source AsmKind). pair (Ok dst) r >>= (λ p. Ok (says.Insn (insn.Alu w a p.0 p.1)))) (source_read src h)

extend_said : (a : AluOp) (w : AluWidth) (dst src : Reg) → statement_of (form.Extend a w) (register_text dst ∷ register_text src ∷ []) ≡ Ok (says.Insn (insn.Alu w a dst (source.Reg src)))
extend_said a w dst src =
    ap (λ (r : Result Reg AsmKind). pair r (register (register_text src)) >>= (λ p. Ok (says.Insn (insn.Alu w a p.0 (source.Reg p.1))))) (register_read dst)
    ∙ ap (λ (r : Result Reg AsmKind). pair (Ok dst) r >>= (λ p. Ok (says.Insn (insn.Alu w a p.0 (source.Reg p.1))))) (register_read src)

neg_said : (w : AluWidth) (dst : Reg) (v : ℤ) → v ≡ pos 0 → statement_of (form.Neg w) (register_text dst ∷ []) ≡ Ok (says.Insn (insn.Alu w op.Neg dst (source.Imm v)))
neg_said w dst v h =
    ap (λ (r : Result Reg AsmKind). r >>= (λ d. Ok (says.Insn (insn.Alu w op.Neg d (source.Imm (pos 0)))))) (register_read dst)
    ∙ ap (λ (z : ℤ). Ok (says.Insn (insn.Alu w op.Neg dst (source.Imm z)))) (sym h)

alu_all : (a : AluOp) (w : AluWidth) (dst : Reg) (src : Source) → IsInsn (insn.Alu w a dst src) → statement_of (alu_form a w) (alu_operands a dst src) ≡ Ok (says.Insn (insn.Alu w a dst src))
alu_all op.Add w dst src h = alu_said op.Add w dst src (fits_of op.Add w dst src h)
alu_all op.Sub w dst src h = alu_said op.Sub w dst src (fits_of op.Sub w dst src h)
alu_all op.Mul w dst src h = alu_said op.Mul w dst src (fits_of op.Mul w dst src h)
alu_all op.Div w dst src h = alu_said op.Div w dst src (fits_of op.Div w dst src h)
alu_all op.Sdiv w dst src h = alu_said op.Sdiv w dst src (fits_of op.Sdiv w dst src h)
alu_all op.Or w dst src h = alu_said op.Or w dst src (fits_of op.Or w dst src h)
alu_all op.And w dst src h = alu_said op.And w dst src (fits_of op.And w dst src h)
alu_all op.Lsh w dst src h = alu_said op.Lsh w dst src (fits_of op.Lsh w dst src h)
alu_all op.Rsh w dst src h = alu_said op.Rsh w dst src (fits_of op.Rsh w dst src h)
alu_all op.Mod w dst src h = alu_said op.Mod w dst src (fits_of op.Mod w dst src h)
alu_all op.Smod w dst src h = alu_said op.Smod w dst src (fits_of op.Smod w dst src h)
alu_all op.Xor w dst src h = alu_said op.Xor w dst src (fits_of op.Xor w dst src h)
alu_all op.Mov w dst src h = alu_said op.Mov w dst src (fits_of op.Mov w dst src h)
alu_all op.Arsh w dst src h = alu_said op.Arsh w dst src (fits_of op.Arsh w dst src h)
alu_all op.Neg w dst (source.Imm v) h = neg_said w dst v (h.2 refl)
alu_all op.Neg w dst (source.Reg r) h = cc
alu_all op.Movsx8 w dst (source.Imm v) h = let no_form = h.0 in cc
alu_all op.Movsx8 w dst (source.Reg r) h = extend_said op.Movsx8 w dst r
alu_all op.Movsx16 w dst (source.Imm v) h = let no_form = h.0 in cc
alu_all op.Movsx16 w dst (source.Reg r) h = extend_said op.Movsx16 w dst r
alu_all op.Movsx32 alu.W32 dst (source.Imm v) h = let no_form = h.0 in cc
alu_all op.Movsx32 alu.W64 dst (source.Imm v) h = let no_form = h.0 in cc
alu_all op.Movsx32 alu.W32 dst (source.Reg r) h = extend_said op.Movsx32 alu.W32 dst r
alu_all op.Movsx32 alu.W64 dst (source.Reg r) h = extend_said op.Movsx32 alu.W64 dst r

test_said : (t : Test) (narrow : Bool) (dst : Reg) (src : Source) (z : ℤ) → SourceFits src → magnitude z < 2 ^ 15 → statement_of (form.Test t narrow) (register_text dst ∷ source_text src ∷ with_sign z ∷ []) ≡ Ok (says.Insn (insn.Test narrow t dst src z))
test_said t narrow dst src z h s =
    ap (λ (r : Result Reg AsmKind). pair (pair r (second_operand (source_text src))) (target_of (2 ^ 15) (with_sign z)) >>= (λ p. Ok (aims p.1 (λ y. insn.Test narrow t p.0.0 p.0.1 y)))) (register_read dst)
    ∙ ap (λ (r : Result Source AsmKind). pair (pair (Ok dst) r) (target_of (2 ^ 15) (with_sign z)) >>= (λ p. Ok (aims p.1 (λ y. insn.Test narrow t p.0.0 p.0.1 y)))) (source_read src h)
    ∙ ap (λ (r : Result Target AsmKind). let d : Reg × Source = (dst, src) in pair (Ok d) r >>= (λ p. Ok (aims p.1 (λ y. insn.Test narrow t p.0.0 p.0.1 y)))) (target_read (2 ^ 15) z (omega arith) s)

jump_said : (half : ℕ) (k : ℤ → Insn) (z : ℤ) → half ≤ 2 ^ 31 → magnitude z < half → (target_of half (with_sign z) >>= (λ t. Ok (aims t k))) ≡ Ok (says.Insn (k z))
jump_said half k z l s = ap (λ (r : Result Target AsmKind). r >>= (λ t. Ok (aims t k))) (target_read half z l s)

said : (x : Insn) → IsInsn x → statement_of (form_of x) (operands_of x) ≡ Ok (says.Insn x)
said (insn.Alu w a dst src) h = alu_all a w dst src h
said (insn.Swap k w dst) h = ap (λ (r : Result Reg AsmKind). r >>= (λ d. Ok (says.Insn (insn.Swap k w d)))) (register_read dst)
said (insn.LoadImm dst value) h =
    let s : value < 2 ^ 64 = h in
    ap (λ (r : Result Reg AsmKind). pair r (wide_immediate (decimal value)) >>= (λ p. Ok (says.Insn (insn.LoadImm p.0 p.1)))) (register_read dst)
    ∙ ap (λ (r : Result ℕ AsmKind). pair (Ok dst) r >>= (λ p. Ok (says.Insn (insn.LoadImm p.0 p.1)))) (wide_immediate_read value s)
said (insn.Load s b dst base offset) h =
    ap (λ (r : Result Reg AsmKind). pair r (memory_operand (memory_operand_text base offset)) >>= (λ p. Ok (says.Insn (insn.Load s b p.0 p.1.base p.1.offset)))) (register_read dst)
    ∙ ap (λ (r : Result MemoryOperand AsmKind). pair (Ok dst) r >>= (λ p. Ok (says.Insn (insn.Load s b p.0 p.1.base p.1.offset)))) (memory_operand_read base offset (small_16 offset h.1))
said (insn.StoreImm s base offset imm) h =
    ap (λ (r : Result MemoryOperand AsmKind). pair r (immediate (signed_decimal imm)) >>= (λ p. Ok (says.Insn (insn.StoreImm s p.0.base p.0.offset p.1)))) (memory_operand_read base offset (small_16 offset h.0))
    ∙ ap (λ (r : Result ℤ AsmKind). let at : MemoryOperand = record { base = base; offset = offset } in pair (Ok at) r >>= (λ p. Ok (says.Insn (insn.StoreImm s p.0.base p.0.offset p.1)))) (immediate_read imm h.1)
said (insn.Store s base offset src) h =
    ap (λ (r : Result MemoryOperand AsmKind). pair r (register (register_text src)) >>= (λ p. Ok (says.Insn (insn.Store s p.0.base p.0.offset p.1)))) (memory_operand_read base offset (small_16 offset h))
    ∙ ap (λ (r : Result Reg AsmKind). let at : MemoryOperand = record { base = base; offset = offset } in pair (Ok at) r >>= (λ p. Ok (says.Insn (insn.Store s p.0.base p.0.offset p.1)))) (register_read src)
said (insn.Jump offset) h = jump_said (2 ^ 15) (λ z. insn.Jump z) offset (omega arith) (small_16 offset h)
said (insn.JumpLong offset) h = jump_said (2 ^ 31) (λ z. insn.JumpLong z) offset (omega arith) (small_32 offset h)
said (insn.Test narrow t dst (source.Imm v) offset) h = test_said t narrow dst (source.Imm v) offset h.0 (small_16 offset h.1)
said (insn.Test narrow t dst (source.Reg r) offset) h = test_said t narrow dst (source.Reg r) offset tt (small_16 offset h)
said (insn.CallHelper helper) h = ap (λ (r : Result ℤ AsmKind). r >>= (λ n. Ok (says.Insn (insn.CallHelper n)))) (immediate_read helper h)
said (insn.CallLocal offset) h = jump_said (2 ^ 31) (λ z. insn.CallLocal z) offset (omega arith) (small_32 offset h)
said insn.Exit h = refl

line_said : (x : Insn) → IsInsn x → line_statement (line_text x) ≡ Ok (says.Insn x)
line_said x h =
    line_read (word_of (form_of x)) (operands_of x) (form_of x) (words_wordy (form_of x)) (word_found x h) (texts_good x h)
    ∙ said x h

-- The lines of the whole.
keeps_return : (t : List ℕ) → Ends t → strip_carriage_return t ≡ t
keeps_return t r =
    let last : slice_index t (length t - 1) ≡ r.last = ap (λ (s : List ℕ). slice_index s (length s - 1)) r.is ∙ last_at r.front r.last in
    let low = line_low r.last (plain_line r.last r.firm) in
    let ne : r.last ≡ 13 → ⊥ = λ e. omega arith in
    ap (λ (n : ℕ). cond (n == 13) (take (length t - 1) t) t) last
    ∙ ap (λ (b : Bool). cond b (take (length t - 1) t) t) (apart_eqb r.last 13 ne)

no_feed : (b : ℕ) → line_byte b ≡ true → (b == 10) ≡ false
no_feed b h =
    let low = line_low b h in
    let ne : b ≡ 10 → ⊥ = λ e. omega arith in
    apart_eqb b 10 ne

first_line : (t rest : List ℕ) → list_all line_byte t ≡ true → Ends t → lines (t ++ 10 ∷ rest) ≡ t ∷ lines rest
first_line t rest h r =
    let p = part_is (λ (b : ℕ). b == 10) rest in
    ap lines_of_parts (split_at 10 line_byte refl no_feed t rest h ∙ ap (λ (ps : List (List ℕ)). t ∷ ps) p.1.1)
    ∙ ap (λ (s : List ℕ). s ∷ lines_of_parts (p.0 ∷ p.1.0)) (keeps_return t r)
    ∙ ap (λ (ps : List (List ℕ)). t ∷ lines_of_parts ps) (sym p.1.1)

lines_printed : (code : List Insn) → AllByRecursion IsInsn code → lines (printed code) ≡ map line_text code
lines_printed [] h = refl
lines_printed (x ∷ xs) h =
    let f = line_firm (word_of (form_of x)) (operands_of x) (form_of x) (words_wordy (form_of x)) (word_found x h.0) (texts_good x h.0) in
    ap lines (append_assoc (line_text x) (10 ∷ []) (printed xs))
    ∙ first_line (line_text x) (printed xs) f.0 f.1
    ∙ ap (λ (ls : List (List ℕ)). line_text x ∷ ls) (lines_printed xs h.1)

no_fault : (before : List (List ℕ)) (code : List Insn) → AllByRecursion IsInsn code → first_fault before (map line_text code) ≡ None
no_fault before [] h = refl
no_fault before (x ∷ xs) h =
    ap (λ (r : Result Statement AsmKind). reported_or (first_round before (line_text x) r) (line_number before) (first_fault (before ++ line_text x ∷ []) (map line_text xs))) (line_said x h.0)
    ∙ no_fault (before ++ line_text x ∷ []) xs h.1

code_of : (all before : List (List ℕ)) (code : List Insn) → AllByRecursion IsInsn code → code_from all before (map line_text code) ≡ Ok code
code_of all before [] h = refl
code_of all before (x ∷ xs) h =
    ap (λ (r : Result Statement AsmKind). code_then (second_round all before (line_text x) r) (line_number before) (code_from all (before ++ line_text x ∷ []) (map line_text xs))) (line_said x h.0)
    ∙ ap (λ (r : Result (List Insn) AsmFault). code_then (Ok (x ∷ [])) (line_number before) r) (code_of all (before ++ line_text x ∷ []) xs h.1)

pub there_and_back : (code : List Insn) → AllByRecursion IsInsn code → assembly (printed code) ≡ Ok code
there_and_back code h =
    let all : List (List ℕ) = map line_text code in
    ap assembly_of_lines (lines_printed code h)
    ∙ ap (λ (o : Option AsmFault). fault_or o (code_from all [] all)) (no_fault [] code h)
    ∙ code_of all [] code h
