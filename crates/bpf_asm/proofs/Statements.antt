-- What a line says, from what its parts say.
use Rattle.std.proofs.Common.{◌≡◌, ℕ, zero, suc, ◌<◌, ◌≤◌, ◌-◌, ◌^◌, ◌==◌, Bool, true, false, cond, ◌&&◌, nat_le, nat_lt, List, length, drop, take, get_or, Some, None, Option, Ok, Err, Result, ap, sym, subst, ◌∙◌, refl, arith, lit<, IfOk, ℤ, pos, FitsSigned, slice_index}
use Rattle.std.specs.Prelude.{neg_ℤ}
use Rattle.std.specs.Int.{w16}
use Rattle.std.specs.List.{list_all}
use Rattle.std.specs.Option.{ok_or}
use borrow.Author.Tests.{le-true, eq-true, ltb-true, leb-true}
use Rattle.bpf_asm.specs.declared.fault.AsmKind.{AsmKind}
use Rattle.bpf_asm.specs.declared.fault.AsmKind.TheVariants.{Word, Operand, Number}
use Rattle.bpf_asm.specs.declared.form.Form.{Form}
use Rattle.bpf_asm.specs.declared.operand.Target.{Target}
use Rattle.bpf_asm.specs.declared.operand.Target.TheVariants as target
use Rattle.bpf_asm.specs.Text.{trim, body_of, first_word, behind_word, operand_texts, is_letter, is_name}
use Rattle.bpf_asm.specs.Words.{form_of_word}
use Rattle.bpf_asm.specs.Operands.{◌>>=◌, ◌>>?◌, numeral, within_half, target_of, is_sign, memory_operand, memory_operand_within}
use Rattle.bpf_asm.specs.Lines.{line_statement, body_statement, instruction, statement_of}
use Rattle.bpf_asm.specs.Rounds.{IsNear}

pub ascii_line : (line : List ℕ) → list_all (λ b. nat_le b 127) line ≡ true → line_statement line ≡ body_statement (body_of line)
ascii_line line h = ap (λ (b : Bool). cond b (body_statement (body_of line)) (Err Word)) h

pub instruction_some : (body : List ℕ) (f : Form) → Some f ≡ form_of_word (first_word body) → instruction body ≡ statement_of f (operand_texts (behind_word body))
instruction_some body f h =
    ap (λ (o : Option Form). ok_or o Word >>= (λ g. statement_of g (operand_texts (behind_word body)))) (sym h)

pub instruction_none : (body : List ℕ) → None ≡ form_of_word (first_word body) → instruction body ≡ Err Word
instruction_none body h =
    ap (λ (o : Option Form). ok_or o Word >>= (λ g. statement_of g (operand_texts (behind_word body)))) (sym h)

pub ruleset instructions = (instruction_some, instruction_none)

three_true : (a b c : Bool) → true ≡ a → true ≡ b → true ≡ c → (a && b && c) ≡ true
three_true true true c ha hb hc = sym hc
three_true true false c ha hb hc = cc
three_true false b c ha hb hc = cc

pub memory_operand_in : (t : List ℕ) → 2 ≤ length t → get_or t 0 0 ≡ 91 → get_or t (length t - 1) 0 ≡ 93 → memory_operand t ≡ memory_operand_within (trim (take (length t - 1 - 1) (drop 1 t)))
memory_operand_in t two left right =
    let n : length t - 2 ≡ length t - 1 - 1 = omega arith in
    ap (λ (b : Bool). cond b (memory_operand_within (trim (take (length t - 2) (drop 1 t)))) (Err Operand))
    (three_true (nat_le 2 (length t)) (get_or t 0 0 == 91) (get_or t (length t - 1) 0 == 93) (le-true 2 (length t) two) (eq-true (get_or t 0 0) 91 left) (eq-true (get_or t (length t - 1) 0) 93 right))
    ∙ ap (λ (k : ℕ). memory_operand_within (trim (take k (drop 1 t)))) n

-- Targets of 16 bits.
abbrev value_or : Option ℤ → ℤ
value_or None = pos 0
value_or (Some z) = z

some_inj : {y z : ℤ} → Some y ≡ Some z → y ≡ z
some_inj h = ap value_or h

negated : (m : ℕ) → m ≤ 2 ^ 15 → FitsSigned w16 (neg_ℤ (pos m))
negated zero h = record { sfits = lit< tt }
negated (suc m) h = record { sfits = omega arith }

within_minus : (b : Bool) (m : ℕ) (z : ℤ) → (b ≡ true → m ≤ 2 ^ 15) → cond b (Some (neg_ℤ (pos m))) None ≡ Some z → FitsSigned w16 z
within_minus true m z k h = subst (λ (y : ℤ). FitsSigned w16 y) (some_inj h) (negated m (k refl))
within_minus false m z k h = cc

within_plus : (b : Bool) (m : ℕ) (z : ℤ) → (b ≡ true → m < 2 ^ 15) → cond b (Some (pos m)) None ≡ Some z → FitsSigned w16 z
within_plus true m z k h =
    let s : m < 2 ^ 15 = k refl in
    subst (λ (y : ℤ). FitsSigned w16 y) (some_inj h) (record { sfits = s })
within_plus false m z k h = cc

within_fits : (minus : Bool) (m : ℕ) (z : ℤ) → within_half (2 ^ 15) minus m ≡ Some z → FitsSigned w16 z
within_fits true m z h = within_minus (nat_le m (2 ^ 15)) m z (leb-true m (2 ^ 15)) h
within_fits false m z h = within_plus (nat_lt m (2 ^ 15)) m z (ltb-true m (2 ^ 15)) h

bind_fits : (q : Option ℕ) (minus : Bool) (z : ℤ) → (q >>? within_half (2 ^ 15) minus) ≡ Some z → FitsSigned w16 z
bind_fits None minus z h = cc
bind_fits (Some m) minus z h = within_fits minus m z h

near_read : (o : Option ℤ) → ((z : ℤ) → o ≡ Some z → FitsSigned w16 z) → IfOk (ok_or o Number >>= (λ n. Ok (target.Offset n))) (λ t. IsNear t)
near_read None h = tt
near_read (Some z) h = h z refl

near_tests : (a b c : Bool) (r : Result Target AsmKind) → IfOk r (λ t. IsNear t) → IfOk (cond a (cond b (Ok target.Label) (Err Operand)) (cond c r (Err Operand))) (λ t. IsNear t)
near_tests true true c r h = tt
near_tests true false c r h = tt
near_tests false b true r h = h
near_tests false b false r h = tt

near_of : (text : List ℕ) → IfOk (target_of (2 ^ 15) text) (λ t. IsNear t)
near_of text =
    near_tests (is_letter (slice_index text 0)) (is_name text) (is_sign (slice_index text 0))
    (ok_or (numeral 10 (drop 1 text) >>? within_half (2 ^ 15) (slice_index text 0 == 45)) Number >>= (λ n. Ok (target.Offset n)))
    (near_read (numeral 10 (drop 1 text) >>? within_half (2 ^ 15) (slice_index text 0 == 45)) (bind_fits (numeral 10 (drop 1 text)) (slice_index text 0 == 45)))

pub near_target_is : (text : List ℕ) (r : Result Target AsmKind) → r ≡ target_of (2 ^ 15) text → IfOk r (λ t. IsNear t)
near_target_is text r h = subst (λ (s : Result Target AsmKind). IfOk s (λ t. IsNear t)) (sym h) (near_of text)
