-- The line of an instruction is read as that instruction.
use Rattle.std.proofs.Common.{◌≡◌, ℕ, zero, suc, ◌<◌, ◌≤◌, ◌+◌, ◌-◌, ◌^◌, ◌==◌, Bool, true, false, cond, not, ◌&&◌, nat_le, nat_lt, List, [], ◌∷◌, ◌++◌, length, drop, take, Some, None, Option, Ok, Err, Result, ap, sym, ◌∙◌, refl, arith, ℤ, pos, negsuc, FitsSigned, slice_index, length-append}
use Rattle.std.specs.Int.{w32}
use Rattle.std.specs.List.{list_all, position_or_len, before_first}
use Rattle.std.specs.Option.{ok_or}
use Rattle.std.specs.Str.Parse.{AllDigits}
use Rattle.std.specs.Fmt.{decimal, signed_decimal}
use Rattle.std.proofs.Math.Seq.{take_all}
use Rattle.std.proofs.lemmas.Fmt.{decimal_is_IsNumeral}
use Rattle.std.proofs.lemmas.Str.Parse.{digit_from_value}
use borrow.Author.Tests.{lt-true, le-true, apart_eqb}
use Rattle.bpf_num.specs.declared.AluOp.{AluOp}
use Rattle.bpf_num.specs.declared.AluOp.TheVariants as op
use Rattle.bpf_num.specs.declared.AluWidth.{AluWidth}
use Rattle.bpf_num.specs.declared.AluWidth.TheVariants as alu
use Rattle.bpf_num.specs.declared.swap.SwapKind.{SwapKind}
use Rattle.bpf_num.specs.declared.swap.SwapKind.TheVariants as swap
use Rattle.bpf_num.specs.declared.swap.Width.{Width}
use Rattle.bpf_num.specs.declared.swap.Width.TheVariants as width
use Rattle.bpf_num.specs.declared.jump.Test.{Test}
use Rattle.bpf_num.specs.declared.jump.Test.TheVariants as test
use Rattle.bpf_decode.specs.declared.insn.Size.{Size}
use Rattle.bpf_decode.specs.declared.insn.Size.TheVariants as size
use Rattle.bpf_decode.specs.declared.insn.Source.{Source}
use Rattle.bpf_decode.specs.declared.insn.Source.TheVariants as source
use Rattle.bpf_decode.specs.declared.insn.Reg.{Reg}
use Rattle.bpf_asm.specs.declared.fault.AsmKind.{AsmKind}
use Rattle.bpf_asm.specs.declared.fault.AsmKind.TheVariants.{Operand, Number}
use Rattle.bpf_asm.specs.declared.form.Form.{Form}
use Rattle.bpf_asm.specs.declared.form.Form.TheVariants as form
use Rattle.bpf_asm.specs.Text.{trim, ends_word, first_word, behind_word, body_of, label_name, is_name, operand_texts}
use Rattle.bpf_asm.specs.Words.{word_of, form_of_word}
use Rattle.bpf_asm.specs.Operands.{register, register_text, number_text, unsigned, is_sign, within_half, memory_operand, memory_operand_within, offset_of_text, wanted, pair, ◌>>=◌, ◌>>?◌}
use Rattle.bpf_asm.specs.Printing.{with_sign, source_text, memory_operand_text, behind_word_text}
use Rattle.bpf_asm.specs.declared.operand.MemoryOperand.{MemoryOperand}
use Rattle.bpf_asm.specs.declared.line.Statement.TheVariants as says
use Rattle.bpf_asm.specs.Lines.{line_statement, body_statement, label_or, instruction, statement_of}
use Rattle.bpf_asm.proofs.Statements.{ascii_line, instruction_some, memory_operand_in}
use Rattle.bpf_asm.proofs.Plain.{plain, line_byte, and_l, and_r, both_true, all_more, all_so, plain_line, plain_blank, plain_colons, line_semicolon, line_ascii, stops_at, nowhere, front_of, back_of, not_yes, Ends, ends_line, trim_same, trim_plain, last_at, AreOperands, behind_read, behind_line, behind_stops, some_length}
use Rattle.bpf_asm.proofs.Numbers.{register_read, decimal_begins, unsigned_read, magnitude}

-- Words.
abbrev pub wordy : ℕ → Bool
wordy b = plain b && not (ends_word b)

alu_wordy : (a : AluOp) (w : AluWidth) → list_all wordy (word_of (form.Alu a w)) ≡ true
alu_wordy op.Add alu.W64 = refl
alu_wordy op.Add alu.W32 = refl
alu_wordy op.Sub alu.W64 = refl
alu_wordy op.Sub alu.W32 = refl
alu_wordy op.Mul alu.W64 = refl
alu_wordy op.Mul alu.W32 = refl
alu_wordy op.Div alu.W64 = refl
alu_wordy op.Div alu.W32 = refl
alu_wordy op.Sdiv alu.W64 = refl
alu_wordy op.Sdiv alu.W32 = refl
alu_wordy op.Or alu.W64 = refl
alu_wordy op.Or alu.W32 = refl
alu_wordy op.And alu.W64 = refl
alu_wordy op.And alu.W32 = refl
alu_wordy op.Lsh alu.W64 = refl
alu_wordy op.Lsh alu.W32 = refl
alu_wordy op.Rsh alu.W64 = refl
alu_wordy op.Rsh alu.W32 = refl
alu_wordy op.Neg alu.W64 = refl
alu_wordy op.Neg alu.W32 = refl
alu_wordy op.Mod alu.W64 = refl
alu_wordy op.Mod alu.W32 = refl
alu_wordy op.Smod alu.W64 = refl
alu_wordy op.Smod alu.W32 = refl
alu_wordy op.Xor alu.W64 = refl
alu_wordy op.Xor alu.W32 = refl
alu_wordy op.Mov alu.W64 = refl
alu_wordy op.Mov alu.W32 = refl
alu_wordy op.Movsx8 alu.W64 = refl
alu_wordy op.Movsx8 alu.W32 = refl
alu_wordy op.Movsx16 alu.W64 = refl
alu_wordy op.Movsx16 alu.W32 = refl
alu_wordy op.Movsx32 alu.W64 = refl
alu_wordy op.Movsx32 alu.W32 = refl
alu_wordy op.Arsh alu.W64 = refl
alu_wordy op.Arsh alu.W32 = refl

swap_wordy : (k : SwapKind) (w : Width) → list_all wordy (word_of (form.Swap k w)) ≡ true
swap_wordy swap.Le width.W16 = refl
swap_wordy swap.Le width.W32 = refl
swap_wordy swap.Le width.W64 = refl
swap_wordy swap.Be width.W16 = refl
swap_wordy swap.Be width.W32 = refl
swap_wordy swap.Be width.W64 = refl
swap_wordy swap.Swap width.W16 = refl
swap_wordy swap.Swap width.W32 = refl
swap_wordy swap.Swap width.W64 = refl

load_wordy : (s : Size) (b : Bool) → list_all wordy (word_of (form.Load s b)) ≡ true
load_wordy size.B false = refl
load_wordy size.B true = refl
load_wordy size.H false = refl
load_wordy size.H true = refl
load_wordy size.W false = refl
load_wordy size.W true = refl
load_wordy size.Dw false = refl
load_wordy size.Dw true = refl

number_wordy : (s : Size) → list_all wordy (word_of (form.StoreImm s)) ≡ true
number_wordy size.B = refl
number_wordy _ = refl

store_wordy : (s : Size) → list_all wordy (word_of (form.Store s)) ≡ true
store_wordy size.B = refl
store_wordy _ = refl

test_wordy : (t : Test) (b : Bool) → list_all wordy (word_of (form.Test t b)) ≡ true
test_wordy test.Jeq false = refl
test_wordy test.Jeq true = refl
test_wordy test.Jgt false = refl
test_wordy test.Jgt true = refl
test_wordy test.Jge false = refl
test_wordy test.Jge true = refl
test_wordy test.Jset false = refl
test_wordy test.Jset true = refl
test_wordy test.Jne false = refl
test_wordy test.Jne true = refl
test_wordy test.Jsgt false = refl
test_wordy test.Jsgt true = refl
test_wordy test.Jsge false = refl
test_wordy test.Jsge true = refl
test_wordy test.Jlt false = refl
test_wordy test.Jlt true = refl
test_wordy test.Jle false = refl
test_wordy test.Jle true = refl
test_wordy test.Jslt false = refl
test_wordy test.Jslt true = refl
test_wordy test.Jsle false = refl
test_wordy test.Jsle true = refl

pub words_wordy : (f : Form) → list_all wordy (word_of f) ≡ true
words_wordy (form.Alu a w) = alu_wordy a w
words_wordy (form.Neg w) = alu_wordy op.Neg w
words_wordy (form.Extend a w) = alu_wordy a w
words_wordy (form.Swap k w) = swap_wordy k w
words_wordy (form.Load s b) = load_wordy s b
words_wordy (form.StoreImm s) = number_wordy s
words_wordy (form.Store s) = store_wordy s
words_wordy (form.Test t b) = test_wordy t b
words_wordy _ = refl

wordy_plain : (b : ℕ) → wordy b ≡ true → plain b ≡ true
wordy_plain b h = and_l (plain b) (not (ends_word b)) h

wordy_continues : (b : ℕ) → wordy b ≡ true → ends_word b ≡ false
wordy_continues b h = not_yes (ends_word b) (and_r (plain b) (not (ends_word b)) h)

-- A line of a word and operands.
no_label : (t : List ℕ) → Ends t → label_name t ≡ None
no_label t r =
    let name : List ℕ = take (length t - 1) t in
    let last : slice_index t (length t - 1) ≡ r.last = ap (λ (s : List ℕ). slice_index s (length s - 1)) r.is ∙ last_at r.front r.last in
    let other : (r.last == 58) ≡ false = not_yes (r.last == 58) (and_l (not (r.last == 58)) (not (r.last == 59)) (plain_colons r.last r.firm)) in
    ap (λ (n : ℕ). cond ((n == 58) && is_name name) (Some name) None) last
    ∙ ap (λ (b : Bool). cond (b && is_name name) (Some name) None) other

pub line_firm : (w : List ℕ) (ops : List (List ℕ)) (f : Form) → list_all wordy w ≡ true → form_of_word w ≡ Some f → AreOperands ops → (list_all line_byte (w ++ behind_word_text ops) ≡ true) × Ends (w ++ behind_word_text ops)
line_firm [] ops f h k g = cc
line_firm (c ∷ cs) ops f h k g =
    let wp : list_all plain (c ∷ cs) ≡ true = all_so wordy plain wordy_plain (c ∷ cs) h in
    (all_more line_byte (c ∷ cs) (behind_word_text ops) (all_so plain line_byte plain_line (c ∷ cs) wp) (behind_line ops g), ends_line c cs ops wp g)

pub line_read : (w : List ℕ) (ops : List (List ℕ)) (f : Form) → list_all wordy w ≡ true → form_of_word w ≡ Some f → AreOperands ops → line_statement (w ++ behind_word_text ops) ≡ statement_of f ops
line_read [] ops f h k g = cc
line_read (c ∷ cs) ops f h k g =
    let w : List ℕ = c ∷ cs in
    let tail : List ℕ = behind_word_text ops in
    let t : List ℕ = (c ∷ cs) ++ behind_word_text ops in
    let wp : list_all plain w ≡ true = all_so wordy plain wordy_plain w h in
    let tl : list_all line_byte t ≡ true = all_more line_byte w tail (all_so plain line_byte plain_line w wp) (behind_line ops g) in
    let ends : Ends t = ends_line c cs ops wp g in
    let whole : before_first (λ b. b == 59) t ≡ t =
    ap (λ (n : ℕ). take n t) (nowhere line_byte (λ b. b == 59) line_semicolon t tl) ∙ take_all (length t) t (omega arith) in
    let same : trim t ≡ t = trim_same c (cs ++ tail) (plain_blank c (and_l (plain c) (list_all plain cs) wp)) ends in
    let body : body_of t ≡ t = ap trim whole ∙ same in
    let at : position_or_len ends_word t ≡ length w = stops_at wordy ends_word wordy_continues w tail h (behind_stops ops) in
    let word : first_word t ≡ w = ap (λ (n : ℕ). take n t) at ∙ front_of w tail in
    let rest : behind_word t ≡ trim tail = ap (λ (s : List ℕ). trim (drop (length s) t)) word ∙ ap trim (back_of w tail) in
    ascii_line t (all_so line_byte (λ b. nat_le b 127) line_ascii t tl)
    ∙ ap body_statement body
    ∙ ap (λ (b : Bool). cond b (Ok says.Blank) (label_or (label_name t) (instruction t))) (some_length t (omega arith))
    ∙ ap (λ (o : Option (List ℕ)). label_or o (instruction t)) (no_label t ends)
    ∙ instruction_some t f (sym k ∙ ap form_of_word (sym word))
    ∙ ap (λ (s : List ℕ). statement_of f (operand_texts s)) rest
    ∙ ap (statement_of f) (behind_read ops g)

-- Operands are plain.
abbrev regy : ℕ → Bool
regy b = plain b && not (is_sign b)

abbrev pub is_text : List ℕ → Type 0
is_text x = (0 < length x) × (list_all plain x ≡ true)

number_regy : (n : ℕ) → n ≤ 10 → list_all regy (number_text n) ≡ true
number_regy zero h = refl
number_regy (suc zero) h = refl
number_regy (suc (suc zero)) h = refl
number_regy (suc (suc (suc zero))) h = refl
number_regy (suc (suc (suc (suc zero)))) h = refl
number_regy (suc (suc (suc (suc (suc zero))))) h = refl
number_regy (suc (suc (suc (suc (suc (suc zero)))))) h = refl
number_regy (suc (suc (suc (suc (suc (suc (suc zero))))))) h = refl
number_regy (suc (suc (suc (suc (suc (suc (suc (suc zero)))))))) h = refl
number_regy (suc (suc (suc (suc (suc (suc (suc (suc (suc zero))))))))) h = refl
number_regy (suc (suc (suc (suc (suc (suc (suc (suc (suc (suc zero)))))))))) h = refl
number_regy (suc (suc (suc (suc (suc (suc (suc (suc (suc (suc (suc n))))))))))) h = absurd (omega arith)

register_plain : (r : Reg) → list_all plain (register_text r) ≡ true
register_plain r = all_so regy plain (λ b h. and_l (plain b) (not (is_sign b)) h) (register_text r) (number_regy r.number r.in_range)

register_some : (r : Reg) → 0 < length (register_text r)
register_some r = by_test (nat_lt r.number 10)
  where
    by_test : (b : Bool) → 0 < length (cond b (114 ∷ (48 + r.number) ∷ []) (114 ∷ 49 ∷ 48 ∷ []))
    by_test true = omega arith
    by_test false = omega arith

digit_plain : (b : ℕ) → 48 ≤ b → b ≤ 57 → plain b ≡ true
digit_plain b l h =
    let x : b ≡ 44 → ⊥ = λ e. omega arith in
    let y : b ≡ 58 → ⊥ = λ e. omega arith in
    let z : b ≡ 59 → ⊥ = λ e. omega arith in
    both_true (nat_le 43 b) _ (sym (le-true 43 b (omega arith)))
    (both_true (nat_le b 122) _ (sym (le-true b 122 (omega arith)))
    (both_true (not (b == 44)) _ (ap not (apart_eqb b 44 x)) (both_true (not (b == 58)) _ (ap not (apart_eqb b 58 y)) (ap not (apart_eqb b 59 z)))))

digits_plain : (ds : List ℕ) → AllDigits 10 ds → list_all plain ds ≡ true
digits_plain [] h = refl
digits_plain (c ∷ cs) h =
    let r = digit_from_value c h.0 in
    both_true (plain c) (list_all plain cs) (digit_plain c r.0 r.1) (digits_plain cs h.1)

pub decimal_text : (n : ℕ) → n < 2 ^ 64 → is_text (decimal n)
decimal_text n s =
    let d = decimal_is_IsNumeral n s in
    (d.0.0, digits_plain (decimal n) d.0.1)

pub signed_text : (z : ℤ) → FitsSigned w32 z → is_text (signed_decimal z)
signed_text (pos n) h =
    let s : n < 2 ^ 31 = h.sfits in
    decimal_text n (omega arith)
signed_text (negsuc n) h =
    let s : n < 2 ^ 31 = h.sfits in
    (omega arith, (decimal_text (suc n) (omega arith)).1)

pub sign_text : (z : ℤ) → magnitude z < 2 ^ 31 → is_text (with_sign z)
sign_text (pos n) s = (omega arith, (decimal_text n (omega arith)).1)
sign_text (negsuc n) s = (omega arith, (decimal_text (suc n) (omega arith)).1)

pub register_is_text : (r : Reg) → is_text (register_text r)
register_is_text r = (register_some r, register_plain r)

inside_plain : (r : Reg) (z : ℤ) → magnitude z < 2 ^ 31 → list_all plain (register_text r ++ with_sign z) ≡ true
inside_plain r z s = all_more plain (register_text r) (with_sign z) (register_plain r) (sign_text z s).1

pub memory_operand_is_text : (r : Reg) (z : ℤ) → magnitude z < 2 ^ 31 → is_text (memory_operand_text r z)
memory_operand_is_text r z s =
    (omega arith, all_more plain (register_text r ++ with_sign z) (93 ∷ []) (inside_plain r z s) refl)

abbrev pub SourceFits : Source → Type 0
SourceFits (source.Imm v) = FitsSigned w32 v
SourceFits (source.Reg r) = Unit {0}

pub source_is_text : (s : Source) → (SourceFits s) → is_text (source_text s)
source_is_text (source.Imm v) h = signed_text v h
source_is_text (source.Reg r) h = register_is_text r

-- A memory operand.
offset_read : (z : ℤ) → magnitude z < 2 ^ 15 → offset_of_text (with_sign z) ≡ Ok z
offset_read (pos n) s =
    let b : n < 2 ^ 64 = omega arith in
    ap (λ (x : List ℕ). wanted x (unsigned x >>? within_half (2 ^ 15) false)) (trim_plain (decimal n) (decimal_text n b).1)
    ∙ ap (λ (t : Bool). cond t (ok_or (unsigned (decimal n) >>? within_half (2 ^ 15) false) Number) (Err Operand)) (decimal_begins n b)
    ∙ ap (λ (o : Option ℕ). ok_or (o >>? within_half (2 ^ 15) false) Number) (unsigned_read n b)
    ∙ ap (λ (t : Bool). ok_or (cond t (Some (pos n)) None) Number) (sym (lt-true n (2 ^ 15) s))
offset_read (negsuc n) s =
    let b : suc n < 2 ^ 64 = omega arith in
    ap (λ (x : List ℕ). wanted x (unsigned x >>? within_half (2 ^ 15) true)) (trim_plain (decimal (suc n)) (decimal_text (suc n) b).1)
    ∙ ap (λ (t : Bool). cond t (ok_or (unsigned (decimal (suc n)) >>? within_half (2 ^ 15) true) Number) (Err Operand)) (decimal_begins (suc n) b)
    ∙ ap (λ (o : Option ℕ). ok_or (o >>? within_half (2 ^ 15) true) Number) (unsigned_read (suc n) b)
    ∙ ap (λ (t : Bool). ok_or (cond t (Some (negsuc n)) None) Number) (sym (le-true (suc n) (2 ^ 15) (omega arith)))

sign_stops : (z : ℤ) → position_or_len is_sign (with_sign z) ≡ 0
sign_stops (pos n) = refl
sign_stops (negsuc n) = refl

pub memory_operand_read : (r : Reg) (z : ℤ) → magnitude z < 2 ^ 15 → memory_operand (memory_operand_text r z) ≡ Ok (record { base = r; offset = z })
memory_operand_read r z s =
    let reg : List ℕ = register_text r in
    let inside : List ℕ = register_text r ++ with_sign z in
    let t : List ℕ = memory_operand_text r z in
    let n : length t - 1 - 1 ≡ length inside = omega (arith, length-append {A = ℕ}) in
    let cut : take (length t - 1 - 1) (drop 1 t) ≡ inside = ap (λ (k : ℕ). take k (inside ++ 93 ∷ [])) n ∙ front_of inside (93 ∷ []) in
    let at : position_or_len is_sign inside ≡ length reg =
    stops_at regy is_sign (λ b h. not_yes (is_sign b) (and_r (plain b) (not (is_sign b)) h)) reg (with_sign z) (number_regy r.number r.in_range) (sign_stops z) in
    memory_operand_in t (omega (arith, length-append {A = ℕ})) refl (last_at (91 ∷ inside) 93)
    ∙ ap (λ (x : List ℕ). memory_operand_within (trim x)) cut
    ∙ ap memory_operand_within (trim_plain inside (inside_plain r z (omega arith)))
    ∙ ap (λ (k : ℕ). pair (register (trim (take k inside))) (offset_of_text (drop k inside)) >>= (λ p. let q : MemoryOperand = record { base = p.0; offset = p.1 } in Ok q)) at
    ∙ ap (λ (x : List ℕ). pair (register (trim x)) (offset_of_text (drop (length reg) inside)) >>= (λ p. let q : MemoryOperand = record { base = p.0; offset = p.1 } in Ok q)) (front_of reg (with_sign z))
    ∙ ap (λ (x : List ℕ). pair (register (trim reg)) (offset_of_text x) >>= (λ p. let q : MemoryOperand = record { base = p.0; offset = p.1 } in Ok q)) (back_of reg (with_sign z))
    ∙ ap (λ (x : List ℕ). pair (register x) (offset_of_text (with_sign z)) >>= (λ p. let q : MemoryOperand = record { base = p.0; offset = p.1 } in Ok q)) (trim_plain reg (register_plain r))
    ∙ ap (λ (x : Result Reg AsmKind). pair x (offset_of_text (with_sign z)) >>= (λ p. let q : MemoryOperand = record { base = p.0; offset = p.1 } in Ok q)) (register_read r)
    ∙ ap (λ (x : Result ℤ AsmKind). pair (Ok r) x >>= (λ p. let q : MemoryOperand = record { base = p.0; offset = p.1 } in Ok q)) (offset_read z s)
