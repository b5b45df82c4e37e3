-- Each result of numbers in the operands' ranges lies in the range that the table gives.
use Rattle.std.proofs.Common.{◌≡◌, ℕ, zero, suc, ◌+◌, ◌-◌, ◌*◌, ◌/◌, ◌%◌, ◌^◌, ◌<◌, ◌≤◌, min, max, Bool, true, false, ◌&&◌, cond, eqb, leb, ltb, ℤ, pos, negsuc, neg_ℤ, refl, sym, ap, subst, ◌∙◌, arith, inl, inr, bit_and, bit_or, bit_xor}
use Rattle.std.specs.Prelude.{int_div, int_rem, unsigned_abs}
use Rattle.std.specs.Int.{w8, w16, w32, w64, cast_signed, cast_unsigned, int_shr, int_wrapping_div, leading_zeros}
use Rattle.std.proofs.lemmas.Bool.{leb-true, leb-false, ltb-true, ltb-false, eqb-true, eqb-false}
use Rattle.std.proofs.lemmas.Bool.Decides.{eqb_tells}
use Rattle.std.proofs.lemmas.Nat.{mul-le, le-div, div-add-mod', pow_pos, shr_le, and_le_l, and_le_r, le_or_l, le_or_r, or_lt, xor_lt, leading_length, one_shl, shl_whole, mod_below}
use Rattle.std.proofs.lemmas.Int.{to_z_pos, of_z-to_z}
use Rattle.std.proofs.Math.Nat.{mod-eq_of_lt}
use Rattle.bpf_num.specs.declared.AluOp.{AluOp}
use Rattle.bpf_num.specs.declared.AluOp.TheVariants.{Add, Sub, Mul, Div, Sdiv, Or, And, Lsh, Rsh, Neg, Mod, Smod, Xor, Mov, Movsx8, Movsx16, Movsx32, Arsh}
use Rattle.bpf_num.specs.declared.AluWidth.{AluWidth}
use Rattle.bpf_num.specs.declared.AluWidth.TheVariants.{W32, W64}
use Rattle.bpf_num.specs.Arithmetic.{bits_of, modulus, result_of}
use Rattle.reg_ranges.specs.Ranges.{Range, In, range, single, is_single, full, alike, sum_range, difference_range, product_range, quotient_range, rest_range, all_bits, left_shift_range, right_shift_range, is_positive, extended_range, negation_range, wide_range, transfer_of, truncate}

and_true : (a b : Bool) → (a && b) ≡ true → (a ≡ true) × (b ≡ true)
and_true true b e = (refl, e)
and_true false b e = absurd cc

pub one_of : (r : Range) (x : ℕ) → is_single r ≡ true → In x r → x ≡ r.lo
one_of r x e i = let same = eqb-true r.lo r.hi e in let l = i.low in let h = i.high in omega arith

-- ---- quotients

mod-small : (x y : ℕ) → x < y → x % y ≡ x
mod-small x y h = mod-eq_of_lt h

zero_div : (a : ℕ) → a / 0 ≤ a
zero_div a = let whole = div-add-mod' a 0 in omega arith

div_low : (al bh x y : ℕ) → al ≤ x → 0 < y → y ≤ bh → al / bh ≤ x / y
div_low al bh x y low some high =
    let whole = div-add-mod' al bh in
    let less = mul-le (al / bh) y (al / bh) bh (omega arith) high in
    le-div (al / bh) x y some (omega arith)

div_high : (ah bl x y : ℕ) → x ≤ ah → 0 < bl → bl ≤ y → x / y ≤ ah / bl
div_high ah bl x y high some low =
    let whole = div-add-mod' x y in
    let less = mul-le (x / y) bl (x / y) y (omega arith) low in
    le-div (x / y) ah bl some (omega arith)

div_le : (x y : ℕ) → 0 < y → x / y ≤ x
div_le x y some =
    let whole = div-add-mod' x y in
    let less = mul-le (x / y) 1 (x / y) y (omega arith) some in
    omega arith

mod_le : (x y : ℕ) → x % y ≤ x
mod_le x y = let whole = div-add-mod' x y in omega arith

quotient_zero : (x y : ℕ) → cond (eqb y 0) 0 (x / y) ≤ x
quotient_zero x y = elim (eqb_tells y 0) [
  | inl (e, same) ↦ subst (λ (b : Bool). cond b 0 (x / y) ≤ x) (sym e) (omega arith)
  | inr (e, other) ↦ subst (λ (b : Bool). cond b 0 (x / y) ≤ x) (sym e) (div_le x y (omega arith))
]

not_zero : (y : ℕ) → 0 < y → eqb y 0 ≡ false
not_zero y h = elim (eqb_tells y 0) [ inl (e, same) ↦ absurd (omega arith) | inr (e, other) ↦ e ]

pub quotient_in : (a b : Range) (x y : ℕ) → In x a → In y b → In (cond (eqb y 0) 0 (x / y)) (quotient_range a b)
quotient_in a b x y ix iy =
    let xl = ix.low in let xh = ix.high in let yl = iy.low in let yh = iy.high in
    cases (ltb 0 b.lo) refl where
      cases : (p : Bool) → ltb 0 b.lo ≡ p → In (cond (eqb y 0) 0 (x / y)) (cond p (range (a.lo / b.hi) (a.hi / b.lo)) (range 0 a.hi))
      cases true e =
          let some = ltb-true 0 b.lo e in
          let xl = ix.low in let xh = ix.high in let yl = iy.low in let yh = iy.high in
          let y_some : 0 < y = omega arith in
          let is : cond (eqb y 0) 0 (x / y) ≡ x / y = ap (λ (q : Bool). cond q 0 (x / y)) (not_zero y y_some) in
          let low = div_low a.lo b.hi x y xl y_some yh in
          let high = div_high a.hi b.lo x y xh some yl in
          record { low = omega arith; high = omega arith }
      cases false e =
          let xh = ix.high in let less = quotient_zero x y in record { low = omega arith; high = omega arith }

rest_zero : (x y : ℕ) → cond (eqb y 0) x (x % y) ≤ x
rest_zero x y = elim (eqb_tells y 0) [
  | inl (e, same) ↦ subst (λ (b : Bool). cond b x (x % y) ≤ x) (sym e) (omega arith)
  | inr (e, other) ↦ subst (λ (b : Bool). cond b x (x % y) ≤ x) (sym e) (mod_le x y)
]

pub rest_in : (a b : Range) (x y : ℕ) → In x a → In y b → In (cond (eqb y 0) x (x % y)) (rest_range a b)
rest_in a b x y ix iy = cases (ltb 0 b.lo) (ltb a.hi b.lo) refl refl where
  cases : (p q : Bool) → ltb 0 b.lo ≡ p → ltb a.hi b.lo ≡ q → In (cond (eqb y 0) x (x % y)) (cond p (cond q a (range 0 (min a.hi (b.hi - 1)))) (range 0 a.hi))
  cases true true e f =
      let some = ltb-true 0 b.lo e in let less = ltb-true a.hi b.lo f in
      let xl = ix.low in let xh = ix.high in let yl = iy.low in
      let is : cond (eqb y 0) x (x % y) ≡ x % y = ap (λ (k : Bool). cond k x (x % y)) (not_zero y (omega arith)) in
      let whole = div-add-mod' x y in
      let small : x % y ≡ x = mod-small x y (omega arith) in
      record { low = omega arith; high = omega arith }
  cases true false e f =
      let some = ltb-true 0 b.lo e in
      let xl = ix.low in let xh = ix.high in let yl = iy.low in let yh = iy.high in
      let is : cond (eqb y 0) x (x % y) ≡ x % y = ap (λ (k : Bool). cond k x (x % y)) (not_zero y (omega arith)) in
      let less = mod_le x y in
      let below = mod_below x y (omega arith) in
      record { low = omega arith; high = omega arith }
  cases false q e f = let xh = ix.high in let less = rest_zero x y in record { low = omega arith; high = omega arith }

-- ---- bits

pub bits_above : (x y : ℕ) → x < 2 ^ 64 → y < 2 ^ 64 → (m : ℕ) × (64 - leading_zeros w64 (max x y) ≡ m) × (m ≤ 64) × (x < 2 ^ m) × (y < 2 ^ m)
bits_above x y hx hy =
    let top : max x y < 2 ^ 64 = omega arith in
    let l = leading_length 64 (max x y) top in
    let sum = l.1 in
    let high = l.2 in
    (l.0, omega arith, omega arith, omega arith, omega arith)

or_in : (a b : Range) (x y : ℕ) → a.hi < 2 ^ 64 → b.hi < 2 ^ 64 → In x a → In y b → In (bit_or x y) (range (max a.lo b.lo) (all_bits a.hi b.hi))
or_in a b x y ha hb ix iy =
    let xl = ix.low in let xh = ix.high in let yl = iy.low in let yh = iy.high in
    let m = bits_above a.hi b.hi ha hb in
    let m3 = m.3 in let m4 = m.4 in
    let below = or_lt m.0 x y (omega arith) (omega arith) in
    let l = le_or_l x y in let r = le_or_r x y in
    let top : all_bits a.hi b.hi ≡ 2 ^ m.0 - 1 = ap (λ (k : ℕ). 2 ^ k - 1) m.1 in
    record { low = omega arith; high = omega arith }

xor_in : (a b : Range) (x y : ℕ) → a.hi < 2 ^ 64 → b.hi < 2 ^ 64 → In x a → In y b → In (bit_xor x y) (range 0 (all_bits a.hi b.hi))
xor_in a b x y ha hb ix iy =
    let xh = ix.high in let yh = iy.high in
    let m = bits_above a.hi b.hi ha hb in
    let m3 = m.3 in let m4 = m.4 in
    let below = xor_lt m.0 x y (omega arith) (omega arith) in
    let top : all_bits a.hi b.hi ≡ 2 ^ m.0 - 1 = ap (λ (k : ℕ). 2 ^ k - 1) m.1 in
    record { low = omega arith; high = omega arith }

and_in : (a b : Range) (x y : ℕ) → In x a → In y b → In (bit_and x y) (range 0 (min a.hi b.hi))
and_in a b x y ix iy =
    let xh = ix.high in let yh = iy.high in
    let l = and_le_l x y in let r = and_le_r x y in record { low = omega arith; high = omega arith }

-- ---- signed numbers

abs_neg : (k : ℕ) → unsigned_abs (neg_ℤ (pos k)) ≡ k
abs_neg zero = refl
abs_neg (suc k) = refl

quot_abs : (z d : ℤ) → unsigned_abs (int_div z d) ≤ unsigned_abs z
quot_abs (pos a) (pos zero) = zero_div a
quot_abs (pos a) (pos (suc b)) = div_le a (suc b) (omega arith)
quot_abs (pos a) (negsuc b) = let e = abs_neg (a / suc b) in let l = div_le a (suc b) (omega arith) in omega arith
quot_abs (negsuc a) (pos zero) = let e = abs_neg (suc a / 0) in let l = zero_div (suc a) in omega arith
quot_abs (negsuc a) (pos (suc b)) = let e = abs_neg (suc a / suc b) in let l = div_le (suc a) (suc b) (omega arith) in omega arith
quot_abs (negsuc a) (negsuc b) = div_le (suc a) (suc b) (omega arith)

rem_abs : (z d : ℤ) → unsigned_abs (int_rem z d) ≤ unsigned_abs z
rem_abs (pos a) d = mod_le a (unsigned_abs d)
rem_abs (negsuc a) d = let e = abs_neg (suc a % unsigned_abs d) in let l = mod_le (suc a) (unsigned_abs d) in omega arith

shr_abs : (z : ℤ) (k : ℕ) → unsigned_abs (int_shr z k) ≤ unsigned_abs z
shr_abs (pos a) k = shr_le a k
shr_abs (negsuc a) k = let l = shr_le a k in omega arith

abs_x8 : (x : ℕ) → x < 2 ^ 8 → unsigned_abs (cast_signed w8 x) ≤ 2 ^ 7
abs_x8 x h = cases (ltb x (2 ^ 7)) refl where
  cases : (p : Bool) → ltb x (2 ^ 7) ≡ p → unsigned_abs (cond p (pos x) (negsuc (2 ^ 8 - suc x))) ≤ 2 ^ 7
  cases true e = let l = ltb-true x (2 ^ 7) e in omega arith
  cases false e = let l = ltb-false x (2 ^ 7) e in omega arith

abs_x16 : (x : ℕ) → x < 2 ^ 16 → unsigned_abs (cast_signed w16 x) ≤ 2 ^ 15
abs_x16 x h = cases (ltb x (2 ^ 15)) refl where
  cases : (p : Bool) → ltb x (2 ^ 15) ≡ p → unsigned_abs (cond p (pos x) (negsuc (2 ^ 16 - suc x))) ≤ 2 ^ 15
  cases true e = let l = ltb-true x (2 ^ 15) e in omega arith
  cases false e = let l = ltb-false x (2 ^ 15) e in omega arith

abs_x32 : (x : ℕ) → x < 2 ^ 32 → unsigned_abs (cast_signed w32 x) ≤ 2 ^ 31
abs_x32 x h = cases (ltb x (2 ^ 31)) refl where
  cases : (p : Bool) → ltb x (2 ^ 31) ≡ p → unsigned_abs (cond p (pos x) (negsuc (2 ^ 32 - suc x))) ≤ 2 ^ 31
  cases true e = let l = ltb-true x (2 ^ 31) e in omega arith
  cases false e = let l = ltb-false x (2 ^ 31) e in omega arith

-- ---- 32 bits

below_32 : (z : ℤ) → unsigned_abs z ≤ 2 ^ 31 → cast_unsigned w32 z < 2 ^ 32
below_32 (pos k) h = omega arith
below_32 (negsuc k) h = omega arith

abs_32 : (x : ℕ) → x < 2 ^ 32 → unsigned_abs (cast_signed w32 x) ≤ 2 ^ 31
abs_32 x h = cases (ltb x (2 ^ 31)) refl where
  cases : (p : Bool) → ltb x (2 ^ 31) ≡ p → unsigned_abs (cond p (pos x) (negsuc (2 ^ 32 - suc x))) ≤ 2 ^ 31
  cases true e = let l = ltb-true x (2 ^ 31) e in omega arith
  cases false e = let l = ltb-false x (2 ^ 31) e in omega arith

sdiv_below_32 : (x y : ℕ) → x < 2 ^ 32 → result_of W32 Sdiv x y < 2 ^ 32
sdiv_below_32 x y h = cases (eqb y 0) refl where
  q : ℕ
  q = cast_unsigned w32 (int_div (cast_signed w32 x) (cast_signed w32 y))

  small : q < 2 ^ 32
  small =
      let a = quot_abs (cast_signed w32 x) (cast_signed w32 y) in
      let b = abs_32 x h in below_32 (int_div (cast_signed w32 x) (cast_signed w32 y)) (omega arith)

  cases : (p : Bool) → eqb y 0 ≡ p → cond p 0 (cast_unsigned w32 (cast_signed w32 q)) < 2 ^ 32
  cases true e = omega arith
  cases false e = let same = of_z-to_z w32 q small in let l = small in omega arith

smod_below_32 : (x y : ℕ) → x < 2 ^ 32 → result_of W32 Smod x y < 2 ^ 32
smod_below_32 x y h = cases (eqb y 0) refl where
  cases : (p : Bool) → eqb y 0 ≡ p → cond p x (cast_unsigned w32 (int_rem (cast_signed w32 x) (cast_signed w32 y))) < 2 ^ 32
  cases true e = h
  cases false e =
      let a = rem_abs (cast_signed w32 x) (cast_signed w32 y) in
      let b = abs_32 x h in below_32 (int_rem (cast_signed w32 x) (cast_signed w32 y)) (omega arith)

arsh_below_32 : (x y : ℕ) → x < 2 ^ 32 → result_of W32 Arsh x y < 2 ^ 32
arsh_below_32 x y h =
    let a = shr_abs (cast_signed w32 x) (y % 32) in
    let b = abs_32 x h in below_32 (int_shr (cast_signed w32 x) (y % 32)) (omega arith)

in_full_32 : (x : ℕ) → x < 2 ^ 32 → In x (full W32)
in_full_32 x h = record { low = omega arith; high = omega arith }

sum_in_32 : (a b : Range) (x y : ℕ) → a.hi < 2 ^ 32 → b.hi < 2 ^ 32 → In x a → In y b → In ((x + y) % 2 ^ 32) (sum_range W32 a b)
sum_in_32 a b x y al bl ix iy =
    let xl = ix.low in let xh = ix.high in let yl = iy.low in let yh = iy.high in
    cases (leb (2 ^ 32) (a.lo + b.lo)) (leb (2 ^ 32) (a.hi + b.hi)) refl refl where
      cases : (p q : Bool) → leb (2 ^ 32) (a.lo + b.lo) ≡ p → leb (2 ^ 32) (a.hi + b.hi) ≡ q → In ((x + y) % 2 ^ 32) (cond (alike p q) (range ((a.lo + b.lo) % 2 ^ 32) ((a.hi + b.hi) % 2 ^ 32)) (full W32))
      cases true true e f = let low = leb-true _ _ e in record { low = omega arith; high = omega arith }
      cases true false e f = record { low = omega arith; high = omega arith }
      cases false true e f = record { low = omega arith; high = omega arith }
      cases false false e f = let high = leb-false _ _ f in record { low = omega arith; high = omega arith }

difference_in_32 : (a b : Range) (x y : ℕ) → a.hi < 2 ^ 32 → b.hi < 2 ^ 32 → In x a → In y b → In ((x + (2 ^ 32 - y)) % 2 ^ 32) (difference_range W32 a b)
difference_in_32 a b x y al bl ix iy =
    let xl = ix.low in let xh = ix.high in let yl = iy.low in let yh = iy.high in
    cases (ltb a.lo b.hi) (ltb a.hi b.lo) refl refl where
      cases : (p q : Bool) → ltb a.lo b.hi ≡ p → ltb a.hi b.lo ≡ q → In ((x + (2 ^ 32 - y)) % 2 ^ 32) (cond (alike p q) (range ((a.lo + (2 ^ 32 - b.hi)) % 2 ^ 32) ((a.hi + (2 ^ 32 - b.lo)) % 2 ^ 32)) (full W32))
      cases true true e f = let high = ltb-true _ _ f in record { low = omega arith; high = omega arith }
      cases true false e f = record { low = omega arith; high = omega arith }
      cases false true e f = record { low = omega arith; high = omega arith }
      cases false false e f = let low = ltb-false _ _ e in record { low = omega arith; high = omega arith }

product_in_32 : (a b : Range) (x y : ℕ) → In x a → In y b → In ((x * y) % 2 ^ 32) (product_range W32 a b)
product_in_32 a b x y ix iy = cases (ltb (a.hi * b.hi) (2 ^ 32)) refl where
  cases : (p : Bool) → ltb (a.hi * b.hi) (2 ^ 32) ≡ p → In ((x * y) % 2 ^ 32) (cond p (range (a.lo * b.lo) (a.hi * b.hi)) (full W32))
  cases true e =
      let small = ltb-true _ _ e in
      let low = mul-le a.lo b.lo x y ix.low iy.low in
      let high = mul-le x y a.hi b.hi ix.high iy.high in
      let is : (x * y) % 2 ^ 32 ≡ x * y = mod-small (x * y) (2 ^ 32) (omega arith) in
      record { low = omega arith; high = omega arith }
  cases false e = record { low = omega arith; high = omega arith }

left_shift_in_32 : (a b : Range) (x y : ℕ) → In x a → In y b → In ((x * 2 ^ (y % 32)) % 2 ^ 32) (left_shift_range W32 a b)
left_shift_in_32 a b x y ix iy = cases (is_single b) (ltb (a.hi * 2 ^ (b.lo % 32)) (2 ^ 32)) refl refl where
  cases : (p q : Bool) → is_single b ≡ p → ltb (a.hi * 2 ^ (b.lo % 32)) (2 ^ 32) ≡ q → In ((x * 2 ^ (y % 32)) % 2 ^ 32) (cond (p && q) (range (a.lo * 2 ^ (b.lo % 32)) (a.hi * 2 ^ (b.lo % 32))) (full W32))
  cases true true e f =
      let same = one_of b y e iy in
      let small = ltb-true _ _ f in
      let low = mul-le a.lo (2 ^ (b.lo % 32)) x (2 ^ (b.lo % 32)) ix.low (omega arith) in
      let high = mul-le x (2 ^ (b.lo % 32)) a.hi (2 ^ (b.lo % 32)) ix.high (omega arith) in
      let at : x * 2 ^ (y % 32) ≡ x * 2 ^ (b.lo % 32) = ap (λ (k : ℕ). x * 2 ^ (k % 32)) same in
      let is : (x * 2 ^ (y % 32)) % 2 ^ 32 ≡ x * 2 ^ (y % 32) = mod-small (x * 2 ^ (y % 32)) (2 ^ 32) (omega arith) in
      record { low = omega arith; high = omega arith }
  cases true false e f = record { low = omega arith; high = omega arith }
  cases false q e f = record { low = omega arith; high = omega arith }

right_shift_in_32 : (a b : Range) (x y : ℕ) → In x a → In y b → In (x / 2 ^ (y % 32)) (right_shift_range W32 a b)
right_shift_in_32 a b x y ix iy = cases (is_single b) refl where
  cases : (p : Bool) → is_single b ≡ p → In (x / 2 ^ (y % 32)) (cond p (range (a.lo / 2 ^ (b.lo % 32)) (a.hi / 2 ^ (b.lo % 32))) (range 0 a.hi))
  cases true e =
      let same = one_of b y e iy in
      let at : x / 2 ^ (y % 32) ≡ x / 2 ^ (b.lo % 32) = ap (λ (k : ℕ). x / 2 ^ (k % 32)) same in
      let some = pow_pos (b.lo % 32) in
      let low = div_low a.lo (2 ^ (b.lo % 32)) x (2 ^ (b.lo % 32)) ix.low some (omega arith) in
      let high = div_high a.hi (2 ^ (b.lo % 32)) x (2 ^ (b.lo % 32)) ix.high some (omega arith) in
      record { low = omega arith; high = omega arith }
  cases false e = let xh = ix.high in let less = shr_le x (y % 32) in record { low = omega arith; high = omega arith }

negation_in_32 : (a : Range) (x y : ℕ) → a.hi < 2 ^ 32 → In x a → In (result_of W32 Neg x y) (negation_range W32 a)
negation_in_32 a x y al ix = cases (is_single a) (ltb 0 a.lo) refl refl where
  cases : (p q : Bool) → is_single a ≡ p → ltb 0 a.lo ≡ q → In ((2 ^ 32 - x) % 2 ^ 32) (cond p (single ((2 ^ 32 - a.lo) % 2 ^ 32)) (cond q (range (2 ^ 32 - a.hi) (2 ^ 32 - a.lo)) (full W32)))
  cases true q e f = let same = one_of a x e ix in record { low = omega arith; high = omega arith }
  cases false true e f =
      let some = ltb-true 0 a.lo f in let xl = ix.low in let xh = ix.high in record { low = omega arith; high = omega arith }
  cases false false e f = record { low = omega arith; high = omega arith }

sdiv_is_32 : (x y : ℕ) → x < 2 ^ 31 → y < 2 ^ 31 → result_of W32 Sdiv x y ≡ cond (eqb y 0) 0 (x / y)
sdiv_is_32 x y hx hy = cases (eqb y 0) refl where
  cases : (p : Bool) → eqb y 0 ≡ p → cond p 0 (cast_unsigned w32 (int_wrapping_div w32 (cast_signed w32 x) (cast_signed w32 y))) ≡ cond p 0 (x / y)
  cases true e = refl
  cases false e =
      let less = div_le x y (let other = eqb-false y 0 e in omega arith) in
      let r : ℕ = x / y in
      ap (λ (z : ℤ). cast_unsigned w32 (int_wrapping_div w32 z (cast_signed w32 y))) (to_z_pos w32 x hx)
      ∙ ap (λ (z : ℤ). cast_unsigned w32 (int_wrapping_div w32 (pos x) z)) (to_z_pos w32 y hy)
      ∙ ap (cast_unsigned w32) (to_z_pos w32 (x / y) (omega arith))

smod_is_32 : (x y : ℕ) → x < 2 ^ 31 → y < 2 ^ 31 → result_of W32 Smod x y ≡ cond (eqb y 0) x (x % y)
smod_is_32 x y hx hy =
    ap (λ (z : ℤ). cond (eqb y 0) x (cast_unsigned w32 (int_rem z (cast_signed w32 y)))) (to_z_pos w32 x hx)
    ∙ ap (λ (z : ℤ). cond (eqb y 0) x (cast_unsigned w32 (int_rem (pos x) z))) (to_z_pos w32 y hy)

arsh_is_32 : (x y : ℕ) → x < 2 ^ 31 → result_of W32 Arsh x y ≡ x / 2 ^ (y % 32)
arsh_is_32 x y hx = ap (λ (z : ℤ). cast_unsigned w32 (int_shr z (y % 32))) (to_z_pos w32 x hx)

movsx8_is_32 : (x y : ℕ) → y < 2 ^ 7 → result_of W32 Movsx8 x y ≡ y
movsx8_is_32 x y h =
    let small : y % 2 ^ 8 ≡ y = mod-small y (2 ^ 8) (omega arith) in
    ap (λ (m : ℕ). cast_unsigned w32 (cast_signed w8 m)) small ∙ ap (cast_unsigned w32) (to_z_pos w8 y h)

movsx8_below_32 : (x y : ℕ) → result_of W32 Movsx8 x y < 2 ^ 32
movsx8_below_32 x y =
    let m : y % 2 ^ 8 < 2 ^ 8 = mod_below y (2 ^ 8) (pow_pos 8) in
    let b = abs_x8 (y % 2 ^ 8) m in below_32 (cast_signed w8 (y % 2 ^ 8)) (omega arith)

movsx8_in_32 : (b : Range) (x y : ℕ) → In y b → In (result_of W32 Movsx8 x y) (extended_range W32 Movsx8 8 b)
movsx8_in_32 b x y iy = cases (is_single b) (ltb b.hi (2 ^ 7)) refl refl where
  cases : (p q : Bool) → is_single b ≡ p → ltb b.hi (2 ^ 7) ≡ q → In (result_of W32 Movsx8 x y) (cond p (single (result_of W32 Movsx8 0 b.lo)) (cond q b (full W32)))
  cases true q e f =
      let same = one_of b y e iy in
      let at : result_of W32 Movsx8 x y ≡ result_of W32 Movsx8 0 b.lo = ap (λ (m : ℕ). result_of W32 Movsx8 0 m) same in
      record { low = omega arith; high = omega arith }
  cases false true e f =
      let small = ltb-true _ _ f in let l = iy.low in let h = iy.high in
      let is = movsx8_is_32 x y (omega arith) in
      record { low = omega arith; high = omega arith }
  cases false false e f = in_full_32 _ (movsx8_below_32 x y)

movsx16_is_32 : (x y : ℕ) → y < 2 ^ 15 → result_of W32 Movsx16 x y ≡ y
movsx16_is_32 x y h =
    let small : y % 2 ^ 16 ≡ y = mod-small y (2 ^ 16) (omega arith) in
    ap (λ (m : ℕ). cast_unsigned w32 (cast_signed w16 m)) small ∙ ap (cast_unsigned w32) (to_z_pos w16 y h)

movsx16_below_32 : (x y : ℕ) → result_of W32 Movsx16 x y < 2 ^ 32
movsx16_below_32 x y =
    let m : y % 2 ^ 16 < 2 ^ 16 = mod_below y (2 ^ 16) (pow_pos 16) in
    let b = abs_x16 (y % 2 ^ 16) m in below_32 (cast_signed w16 (y % 2 ^ 16)) (omega arith)

movsx16_in_32 : (b : Range) (x y : ℕ) → In y b → In (result_of W32 Movsx16 x y) (extended_range W32 Movsx16 16 b)
movsx16_in_32 b x y iy = cases (is_single b) (ltb b.hi (2 ^ 15)) refl refl where
  cases : (p q : Bool) → is_single b ≡ p → ltb b.hi (2 ^ 15) ≡ q → In (result_of W32 Movsx16 x y) (cond p (single (result_of W32 Movsx16 0 b.lo)) (cond q b (full W32)))
  cases true q e f =
      let same = one_of b y e iy in
      let at : result_of W32 Movsx16 x y ≡ result_of W32 Movsx16 0 b.lo = ap (λ (m : ℕ). result_of W32 Movsx16 0 m) same in
      record { low = omega arith; high = omega arith }
  cases false true e f =
      let small = ltb-true _ _ f in let l = iy.low in let h = iy.high in
      let is = movsx16_is_32 x y (omega arith) in
      record { low = omega arith; high = omega arith }
  cases false false e f = in_full_32 _ (movsx16_below_32 x y)

movsx32_is_32 : (x y : ℕ) → y < 2 ^ 31 → result_of W32 Movsx32 x y ≡ y
movsx32_is_32 x y h =
    let small : y % 2 ^ 32 ≡ y = mod-small y (2 ^ 32) (omega arith) in
    ap (λ (m : ℕ). cast_unsigned w32 (cast_signed w32 m)) small ∙ ap (cast_unsigned w32) (to_z_pos w32 y h)

movsx32_below_32 : (x y : ℕ) → result_of W32 Movsx32 x y < 2 ^ 32
movsx32_below_32 x y =
    let m : y % 2 ^ 32 < 2 ^ 32 = mod_below y (2 ^ 32) (pow_pos 32) in
    let b = abs_x32 (y % 2 ^ 32) m in below_32 (cast_signed w32 (y % 2 ^ 32)) (omega arith)

movsx32_in_32 : (b : Range) (x y : ℕ) → In y b → In (result_of W32 Movsx32 x y) (extended_range W32 Movsx32 32 b)
movsx32_in_32 b x y iy = cases (is_single b) (ltb b.hi (2 ^ 31)) refl refl where
  cases : (p q : Bool) → is_single b ≡ p → ltb b.hi (2 ^ 31) ≡ q → In (result_of W32 Movsx32 x y) (cond p (single (result_of W32 Movsx32 0 b.lo)) (cond q b (full W32)))
  cases true q e f =
      let same = one_of b y e iy in
      let at : result_of W32 Movsx32 x y ≡ result_of W32 Movsx32 0 b.lo = ap (λ (m : ℕ). result_of W32 Movsx32 0 m) same in
      record { low = omega arith; high = omega arith }
  cases false true e f =
      let small = ltb-true _ _ f in let l = iy.low in let h = iy.high in
      let is = movsx32_is_32 x y (omega arith) in
      record { low = omega arith; high = omega arith }
  cases false false e f = in_full_32 _ (movsx32_below_32 x y)

both_positive_32 : (a b : Range) → (is_positive W32 a && is_positive W32 b) ≡ true → (a.hi < 2 ^ 31) × (b.hi < 2 ^ 31)
both_positive_32 a b e =
    let both = and_true (is_positive W32 a) (is_positive W32 b) e in
    (ltb-true a.hi (2 ^ 31) both.0, ltb-true b.hi (2 ^ 31) both.1)

signed_in_32 : (a b : Range) (v : ℕ) (r : Range) → v < 2 ^ 32 → ((is_positive W32 a && is_positive W32 b) ≡ true → In v r) → In v (cond (is_positive W32 a && is_positive W32 b) r (full W32))
signed_in_32 a b v r below h = cases (is_positive W32 a && is_positive W32 b) refl where
  cases : (p : Bool) → (is_positive W32 a && is_positive W32 b) ≡ p → In v (cond p r (full W32))
  cases true e = h e
  cases false e = in_full_32 v below

arsh_in_32 : (a b : Range) (x y : ℕ) → x < 2 ^ 32 → In x a → In y b → In (result_of W32 Arsh x y) (cond (is_positive W32 a) (right_shift_range W32 a b) (full W32))
arsh_in_32 a b x y hx ix iy = cases (is_positive W32 a) refl where
  cases : (p : Bool) → is_positive W32 a ≡ p → In (result_of W32 Arsh x y) (cond p (right_shift_range W32 a b) (full W32))
  cases true e =
      let small = ltb-true a.hi (2 ^ 31) e in let xh = ix.high in
      subst (λ (v : ℕ). In v (right_shift_range W32 a b)) (sym (arsh_is_32 x y (omega arith))) (right_shift_in_32 a b x y ix iy)
  cases false e = in_full_32 _ (arsh_below_32 x y hx)

pub wide_in_32 : (op : AluOp) (a b : Range) (x y : ℕ) → a.hi < 2 ^ 32 → b.hi < 2 ^ 32 → In x a → In y b → In (result_of W32 op x y) (wide_range W32 op a b)
wide_in_32 Add a b x y ha hb ix iy = sum_in_32 a b x y ha hb ix iy
wide_in_32 Sub a b x y ha hb ix iy = difference_in_32 a b x y ha hb ix iy
wide_in_32 Mul a b x y ha hb ix iy = product_in_32 a b x y ix iy
wide_in_32 Div a b x y ha hb ix iy = quotient_in a b x y ix iy
wide_in_32 Sdiv a b x y ha hb ix iy =
    let xh = ix.high in let yh = iy.high in
    signed_in_32 a b (result_of W32 Sdiv x y) (quotient_range a b) (sdiv_below_32 x y (omega arith)) (λ e. let h = both_positive_32 a b e in let h0 = h.0 in let h1 = h.1 in subst (λ (v : ℕ). In v (quotient_range a b)) (sym (sdiv_is_32 x y (omega arith) (omega arith))) (quotient_in a b x y ix iy))
wide_in_32 Or a b x y ha hb ix iy = or_in a b x y (omega arith) (omega arith) ix iy
wide_in_32 And a b x y ha hb ix iy = and_in a b x y ix iy
wide_in_32 Lsh a b x y ha hb ix iy = left_shift_in_32 a b x y ix iy
wide_in_32 Rsh a b x y ha hb ix iy = right_shift_in_32 a b x y ix iy
wide_in_32 Neg a b x y ha hb ix iy = negation_in_32 a x y ha ix
wide_in_32 Mod a b x y ha hb ix iy = rest_in a b x y ix iy
wide_in_32 Smod a b x y ha hb ix iy =
    let xh = ix.high in let yh = iy.high in
    signed_in_32 a b (result_of W32 Smod x y) (rest_range a b) (smod_below_32 x y (omega arith)) (λ e. let h = both_positive_32 a b e in let h0 = h.0 in let h1 = h.1 in subst (λ (v : ℕ). In v (rest_range a b)) (sym (smod_is_32 x y (omega arith) (omega arith))) (rest_in a b x y ix iy))
wide_in_32 Xor a b x y ha hb ix iy = xor_in a b x y (omega arith) (omega arith) ix iy
wide_in_32 Mov a b x y ha hb ix iy = iy
wide_in_32 Movsx8 a b x y ha hb ix iy = movsx8_in_32 b x y iy
wide_in_32 Movsx16 a b x y ha hb ix iy = movsx16_in_32 b x y iy
wide_in_32 Movsx32 a b x y ha hb ix iy = movsx32_in_32 b x y iy
wide_in_32 Arsh a b x y ha hb ix iy = let xh = ix.high in arsh_in_32 a b x y (omega arith) ix iy

pub transfer_in_32 : (op : AluOp) (a b : Range) (x y : ℕ) → a.hi < 2 ^ 32 → b.hi < 2 ^ 32 → In x a → In y b → In (result_of W32 op x y) (transfer_of W32 op a b)
transfer_in_32 op a b x y ha hb ix iy = cases (is_single a && is_single b) refl where
  cases : (p : Bool) → (is_single a && is_single b) ≡ p → In (result_of W32 op x y) (cond p (single (result_of W32 op a.lo b.lo)) (wide_range W32 op a b))
  cases true e =
      let both = and_true (is_single a) (is_single b) e in
      let same : result_of W32 op x y ≡ result_of W32 op a.lo b.lo = ap (λ (v : ℕ). result_of W32 op v y) (one_of a x both.0 ix) ∙ ap (λ (v : ℕ). result_of W32 op a.lo v) (one_of b y both.1 iy) in
      record { low = omega arith; high = omega arith }
  cases false e = wide_in_32 op a b x y ha hb ix iy

-- ---- 64 bits

below_64 : (z : ℤ) → unsigned_abs z ≤ 2 ^ 63 → cast_unsigned w64 z < 2 ^ 64
below_64 (pos k) h = omega arith
below_64 (negsuc k) h = omega arith

abs_64 : (x : ℕ) → x < 2 ^ 64 → unsigned_abs (cast_signed w64 x) ≤ 2 ^ 63
abs_64 x h = cases (ltb x (2 ^ 63)) refl where
  cases : (p : Bool) → ltb x (2 ^ 63) ≡ p → unsigned_abs (cond p (pos x) (negsuc (2 ^ 64 - suc x))) ≤ 2 ^ 63
  cases true e = let l = ltb-true x (2 ^ 63) e in omega arith
  cases false e = let l = ltb-false x (2 ^ 63) e in omega arith

sdiv_below_64 : (x y : ℕ) → x < 2 ^ 64 → result_of W64 Sdiv x y < 2 ^ 64
sdiv_below_64 x y h = cases (eqb y 0) refl where
  q : ℕ
  q = cast_unsigned w64 (int_div (cast_signed w64 x) (cast_signed w64 y))

  small : q < 2 ^ 64
  small =
      let a = quot_abs (cast_signed w64 x) (cast_signed w64 y) in
      let b = abs_64 x h in below_64 (int_div (cast_signed w64 x) (cast_signed w64 y)) (omega arith)

  cases : (p : Bool) → eqb y 0 ≡ p → cond p 0 (cast_unsigned w64 (cast_signed w64 q)) < 2 ^ 64
  cases true e = omega arith
  cases false e = let same = of_z-to_z w64 q small in let l = small in omega arith

smod_below_64 : (x y : ℕ) → x < 2 ^ 64 → result_of W64 Smod x y < 2 ^ 64
smod_below_64 x y h = cases (eqb y 0) refl where
  cases : (p : Bool) → eqb y 0 ≡ p → cond p x (cast_unsigned w64 (int_rem (cast_signed w64 x) (cast_signed w64 y))) < 2 ^ 64
  cases true e = h
  cases false e =
      let a = rem_abs (cast_signed w64 x) (cast_signed w64 y) in
      let b = abs_64 x h in below_64 (int_rem (cast_signed w64 x) (cast_signed w64 y)) (omega arith)

arsh_below_64 : (x y : ℕ) → x < 2 ^ 64 → result_of W64 Arsh x y < 2 ^ 64
arsh_below_64 x y h =
    let a = shr_abs (cast_signed w64 x) (y % 64) in
    let b = abs_64 x h in below_64 (int_shr (cast_signed w64 x) (y % 64)) (omega arith)

in_full_64 : (x : ℕ) → x < 2 ^ 64 → In x (full W64)
in_full_64 x h = record { low = omega arith; high = omega arith }

sum_in_64 : (a b : Range) (x y : ℕ) → a.hi < 2 ^ 64 → b.hi < 2 ^ 64 → In x a → In y b → In ((x + y) % 2 ^ 64) (sum_range W64 a b)
sum_in_64 a b x y al bl ix iy =
    let xl = ix.low in let xh = ix.high in let yl = iy.low in let yh = iy.high in
    cases (leb (2 ^ 64) (a.lo + b.lo)) (leb (2 ^ 64) (a.hi + b.hi)) refl refl where
      cases : (p q : Bool) → leb (2 ^ 64) (a.lo + b.lo) ≡ p → leb (2 ^ 64) (a.hi + b.hi) ≡ q → In ((x + y) % 2 ^ 64) (cond (alike p q) (range ((a.lo + b.lo) % 2 ^ 64) ((a.hi + b.hi) % 2 ^ 64)) (full W64))
      cases true true e f = let low = leb-true _ _ e in record { low = omega arith; high = omega arith }
      cases true false e f = record { low = omega arith; high = omega arith }
      cases false true e f = record { low = omega arith; high = omega arith }
      cases false false e f = let high = leb-false _ _ f in record { low = omega arith; high = omega arith }

difference_in_64 : (a b : Range) (x y : ℕ) → a.hi < 2 ^ 64 → b.hi < 2 ^ 64 → In x a → In y b → In ((x + (2 ^ 64 - y)) % 2 ^ 64) (difference_range W64 a b)
difference_in_64 a b x y al bl ix iy =
    let xl = ix.low in let xh = ix.high in let yl = iy.low in let yh = iy.high in
    cases (ltb a.lo b.hi) (ltb a.hi b.lo) refl refl where
      cases : (p q : Bool) → ltb a.lo b.hi ≡ p → ltb a.hi b.lo ≡ q → In ((x + (2 ^ 64 - y)) % 2 ^ 64) (cond (alike p q) (range ((a.lo + (2 ^ 64 - b.hi)) % 2 ^ 64) ((a.hi + (2 ^ 64 - b.lo)) % 2 ^ 64)) (full W64))
      cases true true e f = let high = ltb-true _ _ f in record { low = omega arith; high = omega arith }
      cases true false e f = record { low = omega arith; high = omega arith }
      cases false true e f = record { low = omega arith; high = omega arith }
      cases false false e f = let low = ltb-false _ _ e in record { low = omega arith; high = omega arith }

product_in_64 : (a b : Range) (x y : ℕ) → In x a → In y b → In ((x * y) % 2 ^ 64) (product_range W64 a b)
product_in_64 a b x y ix iy = cases (ltb (a.hi * b.hi) (2 ^ 64)) refl where
  cases : (p : Bool) → ltb (a.hi * b.hi) (2 ^ 64) ≡ p → In ((x * y) % 2 ^ 64) (cond p (range (a.lo * b.lo) (a.hi * b.hi)) (full W64))
  cases true e =
      let small = ltb-true _ _ e in
      let low = mul-le a.lo b.lo x y ix.low iy.low in
      let high = mul-le x y a.hi b.hi ix.high iy.high in
      let is : (x * y) % 2 ^ 64 ≡ x * y = mod-small (x * y) (2 ^ 64) (omega arith) in
      record { low = omega arith; high = omega arith }
  cases false e = record { low = omega arith; high = omega arith }

left_shift_in_64 : (a b : Range) (x y : ℕ) → In x a → In y b → In ((x * 2 ^ (y % 64)) % 2 ^ 64) (left_shift_range W64 a b)
left_shift_in_64 a b x y ix iy = cases (is_single b) (ltb (a.hi * 2 ^ (b.lo % 64)) (2 ^ 64)) refl refl where
  cases : (p q : Bool) → is_single b ≡ p → ltb (a.hi * 2 ^ (b.lo % 64)) (2 ^ 64) ≡ q → In ((x * 2 ^ (y % 64)) % 2 ^ 64) (cond (p && q) (range (a.lo * 2 ^ (b.lo % 64)) (a.hi * 2 ^ (b.lo % 64))) (full W64))
  cases true true e f =
      let same = one_of b y e iy in
      let small = ltb-true _ _ f in
      let low = mul-le a.lo (2 ^ (b.lo % 64)) x (2 ^ (b.lo % 64)) ix.low (omega arith) in
      let high = mul-le x (2 ^ (b.lo % 64)) a.hi (2 ^ (b.lo % 64)) ix.high (omega arith) in
      let at : x * 2 ^ (y % 64) ≡ x * 2 ^ (b.lo % 64) = ap (λ (k : ℕ). x * 2 ^ (k % 64)) same in
      let is : (x * 2 ^ (y % 64)) % 2 ^ 64 ≡ x * 2 ^ (y % 64) = mod-small (x * 2 ^ (y % 64)) (2 ^ 64) (omega arith) in
      record { low = omega arith; high = omega arith }
  cases true false e f = record { low = omega arith; high = omega arith }
  cases false q e f = record { low = omega arith; high = omega arith }

right_shift_in_64 : (a b : Range) (x y : ℕ) → In x a → In y b → In (x / 2 ^ (y % 64)) (right_shift_range W64 a b)
right_shift_in_64 a b x y ix iy = cases (is_single b) refl where
  cases : (p : Bool) → is_single b ≡ p → In (x / 2 ^ (y % 64)) (cond p (range (a.lo / 2 ^ (b.lo % 64)) (a.hi / 2 ^ (b.lo % 64))) (range 0 a.hi))
  cases true e =
      let same = one_of b y e iy in
      let at : x / 2 ^ (y % 64) ≡ x / 2 ^ (b.lo % 64) = ap (λ (k : ℕ). x / 2 ^ (k % 64)) same in
      let some = pow_pos (b.lo % 64) in
      let low = div_low a.lo (2 ^ (b.lo % 64)) x (2 ^ (b.lo % 64)) ix.low some (omega arith) in
      let high = div_high a.hi (2 ^ (b.lo % 64)) x (2 ^ (b.lo % 64)) ix.high some (omega arith) in
      record { low = omega arith; high = omega arith }
  cases false e = let xh = ix.high in let less = shr_le x (y % 64) in record { low = omega arith; high = omega arith }

negation_in_64 : (a : Range) (x y : ℕ) → a.hi < 2 ^ 64 → In x a → In (result_of W64 Neg x y) (negation_range W64 a)
negation_in_64 a x y al ix = cases (is_single a) (ltb 0 a.lo) refl refl where
  cases : (p q : Bool) → is_single a ≡ p → ltb 0 a.lo ≡ q → In ((2 ^ 64 - x) % 2 ^ 64) (cond p (single ((2 ^ 64 - a.lo) % 2 ^ 64)) (cond q (range (2 ^ 64 - a.hi) (2 ^ 64 - a.lo)) (full W64)))
  cases true q e f = let same = one_of a x e ix in record { low = omega arith; high = omega arith }
  cases false true e f =
      let some = ltb-true 0 a.lo f in let xl = ix.low in let xh = ix.high in record { low = omega arith; high = omega arith }
  cases false false e f = record { low = omega arith; high = omega arith }

sdiv_is_64 : (x y : ℕ) → x < 2 ^ 63 → y < 2 ^ 63 → result_of W64 Sdiv x y ≡ cond (eqb y 0) 0 (x / y)
sdiv_is_64 x y hx hy = cases (eqb y 0) refl where
  cases : (p : Bool) → eqb y 0 ≡ p → cond p 0 (cast_unsigned w64 (int_wrapping_div w64 (cast_signed w64 x) (cast_signed w64 y))) ≡ cond p 0 (x / y)
  cases true e = refl
  cases false e =
      let less = div_le x y (let other = eqb-false y 0 e in omega arith) in
      let r : ℕ = x / y in
      ap (λ (z : ℤ). cast_unsigned w64 (int_wrapping_div w64 z (cast_signed w64 y))) (to_z_pos w64 x hx)
      ∙ ap (λ (z : ℤ). cast_unsigned w64 (int_wrapping_div w64 (pos x) z)) (to_z_pos w64 y hy)
      ∙ ap (cast_unsigned w64) (to_z_pos w64 (x / y) (omega arith))

smod_is_64 : (x y : ℕ) → x < 2 ^ 63 → y < 2 ^ 63 → result_of W64 Smod x y ≡ cond (eqb y 0) x (x % y)
smod_is_64 x y hx hy =
    ap (λ (z : ℤ). cond (eqb y 0) x (cast_unsigned w64 (int_rem z (cast_signed w64 y)))) (to_z_pos w64 x hx)
    ∙ ap (λ (z : ℤ). cond (eqb y 0) x (cast_unsigned w64 (int_rem (pos x) z))) (to_z_pos w64 y hy)

arsh_is_64 : (x y : ℕ) → x < 2 ^ 63 → result_of W64 Arsh x y ≡ x / 2 ^ (y % 64)
arsh_is_64 x y hx = ap (λ (z : ℤ). cast_unsigned w64 (int_shr z (y % 64))) (to_z_pos w64 x hx)

movsx8_is_64 : (x y : ℕ) → y < 2 ^ 7 → result_of W64 Movsx8 x y ≡ y
movsx8_is_64 x y h =
    let small : y % 2 ^ 8 ≡ y = mod-small y (2 ^ 8) (omega arith) in
    ap (λ (m : ℕ). cast_unsigned w64 (cast_signed w8 m)) small ∙ ap (cast_unsigned w64) (to_z_pos w8 y h)

movsx8_below_64 : (x y : ℕ) → result_of W64 Movsx8 x y < 2 ^ 64
movsx8_below_64 x y =
    let m : y % 2 ^ 8 < 2 ^ 8 = mod_below y (2 ^ 8) (pow_pos 8) in
    let b = abs_x8 (y % 2 ^ 8) m in below_64 (cast_signed w8 (y % 2 ^ 8)) (omega arith)

movsx8_in_64 : (b : Range) (x y : ℕ) → In y b → In (result_of W64 Movsx8 x y) (extended_range W64 Movsx8 8 b)
movsx8_in_64 b x y iy = cases (is_single b) (ltb b.hi (2 ^ 7)) refl refl where
  cases : (p q : Bool) → is_single b ≡ p → ltb b.hi (2 ^ 7) ≡ q → In (result_of W64 Movsx8 x y) (cond p (single (result_of W64 Movsx8 0 b.lo)) (cond q b (full W64)))
  cases true q e f =
      let same = one_of b y e iy in
      let at : result_of W64 Movsx8 x y ≡ result_of W64 Movsx8 0 b.lo = ap (λ (m : ℕ). result_of W64 Movsx8 0 m) same in
      record { low = omega arith; high = omega arith }
  cases false true e f =
      let small = ltb-true _ _ f in let l = iy.low in let h = iy.high in
      let is = movsx8_is_64 x y (omega arith) in
      record { low = omega arith; high = omega arith }
  cases false false e f = in_full_64 _ (movsx8_below_64 x y)

movsx16_is_64 : (x y : ℕ) → y < 2 ^ 15 → result_of W64 Movsx16 x y ≡ y
movsx16_is_64 x y h =
    let small : y % 2 ^ 16 ≡ y = mod-small y (2 ^ 16) (omega arith) in
    ap (λ (m : ℕ). cast_unsigned w64 (cast_signed w16 m)) small ∙ ap (cast_unsigned w64) (to_z_pos w16 y h)

movsx16_below_64 : (x y : ℕ) → result_of W64 Movsx16 x y < 2 ^ 64
movsx16_below_64 x y =
    let m : y % 2 ^ 16 < 2 ^ 16 = mod_below y (2 ^ 16) (pow_pos 16) in
    let b = abs_x16 (y % 2 ^ 16) m in below_64 (cast_signed w16 (y % 2 ^ 16)) (omega arith)

movsx16_in_64 : (b : Range) (x y : ℕ) → In y b → In (result_of W64 Movsx16 x y) (extended_range W64 Movsx16 16 b)
movsx16_in_64 b x y iy = cases (is_single b) (ltb b.hi (2 ^ 15)) refl refl where
  cases : (p q : Bool) → is_single b ≡ p → ltb b.hi (2 ^ 15) ≡ q → In (result_of W64 Movsx16 x y) (cond p (single (result_of W64 Movsx16 0 b.lo)) (cond q b (full W64)))
  cases true q e f =
      let same = one_of b y e iy in
      let at : result_of W64 Movsx16 x y ≡ result_of W64 Movsx16 0 b.lo = ap (λ (m : ℕ). result_of W64 Movsx16 0 m) same in
      record { low = omega arith; high = omega arith }
  cases false true e f =
      let small = ltb-true _ _ f in let l = iy.low in let h = iy.high in
      let is = movsx16_is_64 x y (omega arith) in
      record { low = omega arith; high = omega arith }
  cases false false e f = in_full_64 _ (movsx16_below_64 x y)

movsx32_is_64 : (x y : ℕ) → y < 2 ^ 31 → result_of W64 Movsx32 x y ≡ y
movsx32_is_64 x y h =
    let small : y % 2 ^ 32 ≡ y = mod-small y (2 ^ 32) (omega arith) in
    ap (λ (m : ℕ). cast_unsigned w64 (cast_signed w32 m)) small ∙ ap (cast_unsigned w64) (to_z_pos w32 y h)

movsx32_below_64 : (x y : ℕ) → result_of W64 Movsx32 x y < 2 ^ 64
movsx32_below_64 x y =
    let m : y % 2 ^ 32 < 2 ^ 32 = mod_below y (2 ^ 32) (pow_pos 32) in
    let b = abs_x32 (y % 2 ^ 32) m in below_64 (cast_signed w32 (y % 2 ^ 32)) (omega arith)

movsx32_in_64 : (b : Range) (x y : ℕ) → In y b → In (result_of W64 Movsx32 x y) (extended_range W64 Movsx32 32 b)
movsx32_in_64 b x y iy = cases (is_single b) (ltb b.hi (2 ^ 31)) refl refl where
  cases : (p q : Bool) → is_single b ≡ p → ltb b.hi (2 ^ 31) ≡ q → In (result_of W64 Movsx32 x y) (cond p (single (result_of W64 Movsx32 0 b.lo)) (cond q b (full W64)))
  cases true q e f =
      let same = one_of b y e iy in
      let at : result_of W64 Movsx32 x y ≡ result_of W64 Movsx32 0 b.lo = ap (λ (m : ℕ). result_of W64 Movsx32 0 m) same in
      record { low = omega arith; high = omega arith }
  cases false true e f =
      let small = ltb-true _ _ f in let l = iy.low in let h = iy.high in
      let is = movsx32_is_64 x y (omega arith) in
      record { low = omega arith; high = omega arith }
  cases false false e f = in_full_64 _ (movsx32_below_64 x y)

both_positive_64 : (a b : Range) → (is_positive W64 a && is_positive W64 b) ≡ true → (a.hi < 2 ^ 63) × (b.hi < 2 ^ 63)
both_positive_64 a b e =
    let both = and_true (is_positive W64 a) (is_positive W64 b) e in
    (ltb-true a.hi (2 ^ 63) both.0, ltb-true b.hi (2 ^ 63) both.1)

signed_in_64 : (a b : Range) (v : ℕ) (r : Range) → v < 2 ^ 64 → ((is_positive W64 a && is_positive W64 b) ≡ true → In v r) → In v (cond (is_positive W64 a && is_positive W64 b) r (full W64))
signed_in_64 a b v r below h = cases (is_positive W64 a && is_positive W64 b) refl where
  cases : (p : Bool) → (is_positive W64 a && is_positive W64 b) ≡ p → In v (cond p r (full W64))
  cases true e = h e
  cases false e = in_full_64 v below

arsh_in_64 : (a b : Range) (x y : ℕ) → x < 2 ^ 64 → In x a → In y b → In (result_of W64 Arsh x y) (cond (is_positive W64 a) (right_shift_range W64 a b) (full W64))
arsh_in_64 a b x y hx ix iy = cases (is_positive W64 a) refl where
  cases : (p : Bool) → is_positive W64 a ≡ p → In (result_of W64 Arsh x y) (cond p (right_shift_range W64 a b) (full W64))
  cases true e =
      let small = ltb-true a.hi (2 ^ 63) e in let xh = ix.high in
      subst (λ (v : ℕ). In v (right_shift_range W64 a b)) (sym (arsh_is_64 x y (omega arith))) (right_shift_in_64 a b x y ix iy)
  cases false e = in_full_64 _ (arsh_below_64 x y hx)

pub wide_in_64 : (op : AluOp) (a b : Range) (x y : ℕ) → a.hi < 2 ^ 64 → b.hi < 2 ^ 64 → In x a → In y b → In (result_of W64 op x y) (wide_range W64 op a b)
wide_in_64 Add a b x y ha hb ix iy = sum_in_64 a b x y ha hb ix iy
wide_in_64 Sub a b x y ha hb ix iy = difference_in_64 a b x y ha hb ix iy
wide_in_64 Mul a b x y ha hb ix iy = product_in_64 a b x y ix iy
wide_in_64 Div a b x y ha hb ix iy = quotient_in a b x y ix iy
wide_in_64 Sdiv a b x y ha hb ix iy =
    let xh = ix.high in let yh = iy.high in
    signed_in_64 a b (result_of W64 Sdiv x y) (quotient_range a b) (sdiv_below_64 x y (omega arith)) (λ e. let h = both_positive_64 a b e in let h0 = h.0 in let h1 = h.1 in subst (λ (v : ℕ). In v (quotient_range a b)) (sym (sdiv_is_64 x y (omega arith) (omega arith))) (quotient_in a b x y ix iy))
wide_in_64 Or a b x y ha hb ix iy = or_in a b x y (omega arith) (omega arith) ix iy
wide_in_64 And a b x y ha hb ix iy = and_in a b x y ix iy
wide_in_64 Lsh a b x y ha hb ix iy = left_shift_in_64 a b x y ix iy
wide_in_64 Rsh a b x y ha hb ix iy = right_shift_in_64 a b x y ix iy
wide_in_64 Neg a b x y ha hb ix iy = negation_in_64 a x y ha ix
wide_in_64 Mod a b x y ha hb ix iy = rest_in a b x y ix iy
wide_in_64 Smod a b x y ha hb ix iy =
    let xh = ix.high in let yh = iy.high in
    signed_in_64 a b (result_of W64 Smod x y) (rest_range a b) (smod_below_64 x y (omega arith)) (λ e. let h = both_positive_64 a b e in let h0 = h.0 in let h1 = h.1 in subst (λ (v : ℕ). In v (rest_range a b)) (sym (smod_is_64 x y (omega arith) (omega arith))) (rest_in a b x y ix iy))
wide_in_64 Xor a b x y ha hb ix iy = xor_in a b x y (omega arith) (omega arith) ix iy
wide_in_64 Mov a b x y ha hb ix iy = iy
wide_in_64 Movsx8 a b x y ha hb ix iy = movsx8_in_64 b x y iy
wide_in_64 Movsx16 a b x y ha hb ix iy = movsx16_in_64 b x y iy
wide_in_64 Movsx32 a b x y ha hb ix iy = movsx32_in_64 b x y iy
wide_in_64 Arsh a b x y ha hb ix iy = let xh = ix.high in arsh_in_64 a b x y (omega arith) ix iy

pub transfer_in_64 : (op : AluOp) (a b : Range) (x y : ℕ) → a.hi < 2 ^ 64 → b.hi < 2 ^ 64 → In x a → In y b → In (result_of W64 op x y) (transfer_of W64 op a b)
transfer_in_64 op a b x y ha hb ix iy = cases (is_single a && is_single b) refl where
  cases : (p : Bool) → (is_single a && is_single b) ≡ p → In (result_of W64 op x y) (cond p (single (result_of W64 op a.lo b.lo)) (wide_range W64 op a b))
  cases true e =
      let both = and_true (is_single a) (is_single b) e in
      let same : result_of W64 op x y ≡ result_of W64 op a.lo b.lo = ap (λ (v : ℕ). result_of W64 op v y) (one_of a x both.0 ix) ∙ ap (λ (v : ℕ). result_of W64 op a.lo v) (one_of b y both.1 iy) in
      record { low = omega arith; high = omega arith }
  cases false e = wide_in_64 op a b x y ha hb ix iy

-- the low half of a number lies in the range of low halves
pub truncate_in : (a : Range) (x : ℕ) → In x a → In (x % 2 ^ 32) (truncate a)
truncate_in a x ix = cases (is_single a) (ltb a.hi (2 ^ 32)) refl refl where
  cases : (p q : Bool) → is_single a ≡ p → ltb a.hi (2 ^ 32) ≡ q → In (x % 2 ^ 32) (cond p (single (a.lo % 2 ^ 32)) (cond q a (full W32)))
  cases true q e f = let same = one_of a x e ix in record { low = omega arith; high = omega arith }
  cases false true e f =
      let small = ltb-true _ _ f in let l = ix.low in let h = ix.high in record { low = omega arith; high = omega arith }
  cases false false e f = record { low = omega arith; high = omega arith }

pub sound_64 : (op : AluOp) (a b r : Range) → a.hi < 2 ^ 64 → b.hi < 2 ^ 64 → r ≡ transfer_of W64 op a b → (x y : ℕ) → In x a → In y b → In (result_of W64 op x y) r
sound_64 op a b r ha hb e x y ix iy =
    subst (λ (q : Range). In (result_of W64 op x y) q) (sym e) (transfer_in_64 op a b x y ha hb ix iy)

pub sound_32 : (op : AluOp) (a b c d r : Range) → c.hi < 2 ^ 32 → d.hi < 2 ^ 32 → c ≡ truncate a → d ≡ truncate b → r ≡ transfer_of W32 op c d → (x y : ℕ) → In x a → In y b → In (result_of W32 op (x % 2 ^ 32) (y % 2 ^ 32)) r
sound_32 op a b c d r hc hd ec ed e x y ix iy =
    let ic = subst (λ (q : Range). In (x % 2 ^ 32) q) (sym ec) (truncate_in a x ix) in
    let id = subst (λ (q : Range). In (y % 2 ^ 32) q) (sym ed) (truncate_in b y iy) in
    subst (λ (q : Range). In (result_of W32 op (x % 2 ^ 32) (y % 2 ^ 32)) q) (sym e) (transfer_in_32 op c d (x % 2 ^ 32) (y % 2 ^ 32) hc hd ic id)

-- ---- shifts of 128 bits

pub top_bits : (x y t : ℕ) → x < 2 ^ 64 → y < 2 ^ 64 → t ≡ max x y → (x ≤ (1 * 2 ^ (64 - leading_zeros w64 t)) % 2 ^ 128 - 1) × (y ≤ (1 * 2 ^ (64 - leading_zeros w64 t)) % 2 ^ 128 - 1)
top_bits x y t hx hy e =
    let m = bits_above x y hx hy in
    let m2 = m.2 in let m3 = m.3 in let m4 = m.4 in
    let at : 64 - leading_zeros w64 t ≡ m.0 = ap (λ (k : ℕ). 64 - leading_zeros w64 k) e ∙ m.1 in
    let is : (1 * 2 ^ (64 - leading_zeros w64 t)) % 2 ^ 128 ≡ 2 ^ m.0 = ap (λ (k : ℕ). (1 * 2 ^ k) % 2 ^ 128) at ∙ one_shl m.0 128 (omega arith) in
    (omega arith, omega arith)

pub shifted : (v w k m : ℕ) → v ≤ w → w < 2 ^ 64 → k < 64 → (w * 2 ^ k) % 2 ^ 128 < m → m ≤ 2 ^ 64 → ((v * 2 ^ k) % 2 ^ 128 ≤ (w * 2 ^ k) % 2 ^ 128) × ((v * 2 ^ k) % 2 ^ 128 < 2 ^ 64)
shifted v w k m less hw hk small hm =
    let a = shl_whole v 64 k 128 (omega arith) (omega arith) in
    let b = shl_whole w 64 k 128 (omega arith) (omega arith) in
    let c = mul-le v (2 ^ k) w (2 ^ k) less (omega arith) in
    (omega arith, omega arith)

pub count_small : (width : AluWidth) (x n : ℕ) → n ≡ bits_of width → x % n < 64
count_small W32 x n e = omega arith
count_small W64 x n e = omega arith

pub modulus_small : (width : AluWidth) → modulus width ≤ 2 ^ 64
modulus_small W32 = omega arith
modulus_small W64 = omega arith
