-- Printed registers and numbers are read back.
use Rattle.std.proofs.Common.{◌≡◌, ℕ, zero, suc, ◌<◌, ◌≤◌, ◌+◌, ◌-◌, ◌^◌, ◌==◌, Bool, true, false, cond, ◌&&◌, ◌||◌, nat_le, nat_lt, List, [], ◌∷◌, drop, take, get_or, Some, None, Option, Ok, Err, Result, ap, sym, ◌∙◌, refl, arith, ℤ, pos, negsuc, FitsSigned}
use Rattle.std.specs.Int.{w32, cast_signed}
use Rattle.std.specs.List.{list_all}
use Rattle.std.specs.Option.{ok_or, option_map}
use Rattle.std.specs.Str.{bytes_eq}
use Rattle.std.specs.Str.Parse.{AllDigits, digits_value}
use Rattle.std.specs.Char.{digit_value}
use Rattle.std.specs.Int.{IsInRange}
use Rattle.std.specs.Fmt.{decimal, signed_decimal}
use Rattle.std.proofs.lemmas.Fmt.{decimal_is_IsNumeral}
use Rattle.std.proofs.lemmas.Str.Parse.{digit_at}
use borrow.Author.Tests.{lt-true, le-true, apart_eqb}
use Rattle.bpf_decode.specs.declared.insn.Reg.{Reg}
use Rattle.bpf_decode.specs.declared.insn.Source.TheVariants as source
use Rattle.bpf_asm.specs.declared.fault.AsmKind.{AsmKind}
use Rattle.bpf_asm.specs.declared.fault.AsmKind.TheVariants.{Operand, Number}
use Rattle.bpf_asm.specs.declared.operand.Target.TheVariants as target
use Rattle.bpf_asm.specs.Text.{is_digit}
use Rattle.bpf_asm.specs.Operands.{register, register_text, number_text, numbered, numeral, unsigned, signed, begins_number, is_sign, immediate, wide_immediate, immediate_of, wide_immediate_of, within_half, target_of, second_operand, ◌>>=◌, ◌>>?◌}
use Rattle.bpf_asm.specs.Printing.{with_sign}
use Rattle.bpf_asm.proofs.Numerals.{numeral_is}
use Rattle.bpf_asm.proofs.Registers.{same_reg}

-- Registers.
number_read : (n : ℕ) (h : n ≤ 10) → register (number_text n) ≡ Ok (numbered n h)
number_read zero h = ap Ok (same_reg _ _ refl)
number_read (suc zero) h = ap Ok (same_reg _ _ refl)
number_read (suc (suc zero)) h = ap Ok (same_reg _ _ refl)
number_read (suc (suc (suc zero))) h = ap Ok (same_reg _ _ refl)
number_read (suc (suc (suc (suc zero)))) h = ap Ok (same_reg _ _ refl)
number_read (suc (suc (suc (suc (suc zero))))) h = ap Ok (same_reg _ _ refl)
number_read (suc (suc (suc (suc (suc (suc zero)))))) h = ap Ok (same_reg _ _ refl)
number_read (suc (suc (suc (suc (suc (suc (suc zero))))))) h = ap Ok (same_reg _ _ refl)
number_read (suc (suc (suc (suc (suc (suc (suc (suc zero)))))))) h = ap Ok (same_reg _ _ refl)
number_read (suc (suc (suc (suc (suc (suc (suc (suc (suc zero))))))))) h = ap Ok (same_reg _ _ refl)
number_read (suc (suc (suc (suc (suc (suc (suc (suc (suc (suc zero)))))))))) h = ap Ok (same_reg _ _ refl)
number_read (suc (suc (suc (suc (suc (suc (suc (suc (suc (suc (suc n))))))))))) h = absurd (omega arith)

pub register_read : (r : Reg) → register (register_text r) ≡ Ok r
register_read r = number_read r.number r.in_range ∙ ap Ok (same_reg (numbered r.number r.in_range) r refl)

not_number : (n : ℕ) → n ≤ 10 → begins_number (number_text n) ≡ false
not_number n h = by_test (nat_lt n 10)
  where
    by_test : (b : Bool) → begins_number (cond b (114 ∷ (48 + n) ∷ []) (114 ∷ 49 ∷ 48 ∷ [])) ≡ false
    by_test true = refl
    by_test false = refl

-- Digits.
all_digits : (ds : List ℕ) → AllDigits 10 ds → list_all (λ c. nat_lt (digit_value c) 10) ds ≡ true
all_digits [] h = refl
all_digits (c ∷ cs) h =
    ap (λ (b : Bool). b && list_all (λ x. nat_lt (digit_value x) 10) cs) (sym (lt-true (digit_value c) 10 h.0))
    ∙ all_digits cs h.1

pub numeral_read : (n : ℕ) → n < 2 ^ 64 → numeral 10 (decimal n) ≡ Some n
numeral_read n s =
    let d = decimal_is_IsNumeral n s in
    let v : digits_value 10 (decimal n) ≡ n = d.1 in
    numeral_is 10 (decimal n) d.0.0 (all_digits (decimal n) d.0.1) (omega arith) ∙ ap Some v

first_digit : (n : ℕ) → n < 2 ^ 64 → IsInRange 48 57 (get_or (decimal n) 0 0)
first_digit n s =
    let d = decimal_is_IsNumeral n s in
    digit_at (decimal n) 0 d.0.1 d.0.0

digit_yes : (c : ℕ) → 48 ≤ c → c ≤ 57 → is_digit c ≡ true
digit_yes c l h =
    ap (λ (b : Bool). b && nat_le c 57) (sym (le-true 48 c l)) ∙ sym (le-true c 57 h)

pub decimal_begins : (n : ℕ) → n < 2 ^ 64 → begins_number (decimal n) ≡ true
decimal_begins n s =
    let r = first_digit n s in
    ap (λ (b : Bool). b || is_sign (get_or (decimal n) 0 0)) (digit_yes (get_or (decimal n) 0 0) r.0 r.1)

-- Digits are no hex.
no_second : (a b : Bool) → b ≡ false → (a && (b && true)) ≡ false
no_second true b h = ap (λ (x : Bool). x && true) h
no_second false b h = refl

no_more : (a : Bool) → (a && false) ≡ false
no_more true = refl
no_more false = refl

not_hex : (ds : List ℕ) → AllDigits 10 ds → bytes_eq (take 2 ds) (48 ∷ 120 ∷ []) ≡ false
not_hex [] h = refl
not_hex (a ∷ []) h = no_more (a == 48)
not_hex (a ∷ b ∷ cs) h =
    let r = digit_at (a ∷ b ∷ cs) 1 h (omega arith) in
    let ne : b ≡ 120 → ⊥ = λ e. omega arith in
    no_second (a == 48) (b == 120) (apart_eqb b 120 ne)

pub unsigned_read : (n : ℕ) → n < 2 ^ 64 → unsigned (decimal n) ≡ Some n
unsigned_read n s =
    let d = decimal_is_IsNumeral n s in
    ap (λ (b : Bool). cond b (numeral 16 (drop 2 (decimal n))) (numeral 10 (decimal n))) (not_hex (decimal n) d.0.1)
    ∙ numeral_read n s

signed_read : (n : ℕ) → n < 2 ^ 64 → signed (decimal n) ≡ Some (false, n)
signed_read n s =
    let r = first_digit n s in
    let ne : get_or (decimal n) 0 0 ≡ 45 → ⊥ = λ e. omega arith in
    ap (λ (b : Bool). cond b (option_map (λ m. (true, m)) (numeral 10 (drop 1 (decimal n)))) (option_map (λ m. (false, m)) (unsigned (decimal n)))) (apart_eqb (get_or (decimal n) 0 0) 45 ne)
    ∙ ap (option_map (λ m. (false, m))) (unsigned_read n s)

-- Numbers.
pub wide_immediate_read : (n : ℕ) → n < 2 ^ 64 → wide_immediate (decimal n) ≡ Ok n
wide_immediate_read n s =
    ap (λ (b : Bool). cond b (ok_or (signed (decimal n) >>? wide_immediate_of) Number) (Err Operand)) (decimal_begins n s)
    ∙ ap (λ (o : Option (Bool × ℕ)). ok_or (o >>? wide_immediate_of) Number) (signed_read n s)

immediate_plus : (n : ℕ) → n < 2 ^ 31 → immediate_of (false, n) ≡ Some (pos n)
immediate_plus n s =
    let t : n < 2 ^ 32 = omega arith in
    ap (λ (b : Bool). cond b (Some (cast_signed w32 n)) None) (sym (lt-true n (2 ^ 32) t))
    ∙ ap (λ (b : Bool). Some (cond b (pos n) (negsuc (2 ^ 32 - suc n)))) (sym (lt-true n (2 ^ 31) s))

pub immediate_read : (z : ℤ) → FitsSigned w32 z → immediate (signed_decimal z) ≡ Ok z
immediate_read (pos n) h =
    let s : n < 2 ^ 31 = h.sfits in
    let b : n < 2 ^ 64 = omega arith in
    ap (λ (t : Bool). cond t (ok_or (signed (decimal n) >>? immediate_of) Number) (Err Operand)) (decimal_begins n b)
    ∙ ap (λ (o : Option (Bool × ℕ)). ok_or (o >>? immediate_of) Number) (signed_read n b)
    ∙ ap (λ (o : Option ℤ). ok_or o Number) (immediate_plus n s)
immediate_read (negsuc n) h =
    let s : n < 2 ^ 31 = h.sfits in
    ap (λ (o : Option ℕ). ok_or (option_map (λ m. (true, m)) o >>? immediate_of) Number) (numeral_read (suc n) (omega arith))
    ∙ ap (λ (b : Bool). ok_or (cond b (Some (negsuc n)) None) Number) (sym (le-true (suc n) (2 ^ 31) (omega arith)))

signed_begins : (z : ℤ) → FitsSigned w32 z → begins_number (signed_decimal z) ≡ true
signed_begins (pos n) h =
    let s : n < 2 ^ 31 = h.sfits in
    decimal_begins n (omega arith)
signed_begins (negsuc n) h = refl

-- A number or a register.
pub imm_read : (z : ℤ) → FitsSigned w32 z → second_operand (signed_decimal z) ≡ Ok (source.Imm z)
imm_read z h =
    ap (λ (b : Bool). cond b (immediate (signed_decimal z) >>= (λ n. Ok (source.Imm n))) (register (signed_decimal z) >>= (λ r. Ok (source.Reg r)))) (signed_begins z h)
    ∙ ap (λ (r : Result ℤ AsmKind). r >>= (λ n. Ok (source.Imm n))) (immediate_read z h)

pub reg_read : (r : Reg) → second_operand (register_text r) ≡ Ok (source.Reg r)
reg_read r =
    ap (λ (b : Bool). cond b (immediate (register_text r) >>= (λ n. Ok (source.Imm n))) (register (register_text r) >>= (λ x. Ok (source.Reg x)))) (not_number r.number r.in_range)
    ∙ ap (λ (x : Result Reg AsmKind). x >>= (λ y. Ok (source.Reg y))) (register_read r)

-- Targets.
abbrev pub magnitude : ℤ → ℕ
magnitude (pos n) = n
magnitude (negsuc n) = n

pub target_read : (half : ℕ) (z : ℤ) → half ≤ 2 ^ 31 → magnitude z < half → target_of half (with_sign z) ≡ Ok (target.Offset z)
target_read half (pos n) l h =
    ap (λ (o : Option ℕ). ok_or (o >>? within_half half false) Number >>= (λ y. Ok (target.Offset y))) (numeral_read n (omega arith))
    ∙ ap (λ (b : Bool). ok_or (cond b (Some (pos n)) None) Number >>= (λ y. Ok (target.Offset y))) (sym (lt-true n half h))
target_read half (negsuc n) l h =
    ap (λ (o : Option ℕ). ok_or (o >>? within_half half true) Number >>= (λ y. Ok (target.Offset y))) (numeral_read (suc n) (omega arith))
    ∙ ap (λ (b : Bool). ok_or (cond b (Some (negsuc n)) None) Number >>= (λ y. Ok (target.Offset y))) (sym (le-true (suc n) half (omega arith)))
