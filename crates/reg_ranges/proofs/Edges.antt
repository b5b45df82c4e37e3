-- The edge of a test keeps the numbers at which the test has that outcome; one of the two edges can always be taken.
use Rattle.std.proofs.Common.{◌≡◌, ◌≢◌, ℕ, ◌+◌, ◌-◌, ◌%◌, ◌^◌, ◌<◌, ◌≤◌, min, max, Bool, true, false, ◌&&◌, ◌||◌, not, cond, eqb, leb, ltb, Option, Some, None, ℤ, pos, refl, sym, ap, subst, ◌∙◌, arith, bit_and}
use Rattle.std.specs.Prelude.{int_lt, int_le}
use Rattle.std.specs.Option.{option_map}
use Rattle.std.specs.Int.{w32, w64, cast_signed}
use Rattle.std.proofs.lemmas.Bool.{leb-true, leb-false, ltb-true, ltb-false, eqb-true, eqb-false}
use Rattle.std.proofs.lemmas.Nat.{and_le_l, and_le_r}
use Rattle.std.proofs.lemmas.Int.{to_z_pos}
use Rattle.std.proofs.Math.Nat.{mod-eq_of_lt}
use Rattle.bpf_num.specs.declared.jump.Test.{Test}
use Rattle.bpf_num.specs.declared.jump.Test.TheVariants.{Jeq, Jgt, Jge, Jset, Jne, Jsgt, Jsge, Jlt, Jle, Jslt, Jsle}
use Rattle.bpf_num.specs.declared.AluWidth.TheVariants.{W32, W64}
use Rattle.bpf_num.specs.Jump.{test_of, jump_test_of}
use Rattle.reg_ranges.specs.Ranges.{Range, In, range, is_single, is_positive}
use Rattle.reg_ranges.specs.Refine.{Ranges, Keeps, ranges, exchanged, without, equal_edge, unequal_edge, greater_edge, greater_or_equal_edge, signed_edge, is_zero, taken_edge, refuted_edge, wide_edge, narrow_edge, edge_of, same, refine_of}
use Rattle.reg_ranges.proofs.Sound.{one_of}

and_true : (a b : Bool) → (a && b) ≡ true → (a ≡ true) × (b ≡ true)
and_true true b e = (refl, e)
and_true false b e = absurd cc

greater_keeps : (a b : Range) (x y : ℕ) → In x a → In y b → y < x → Keeps (greater_edge a b) x y
greater_keeps a b x y ix iy h = cases (leb a.hi b.lo) refl where
  cases : (p : Bool) → leb a.hi b.lo ≡ p → Keeps (cond p None (Some (ranges (range (max a.lo (b.lo + 1)) a.hi) (range b.lo (min b.hi (a.hi - 1)))))) x y
  cases true e =
      let less = leb-true _ _ e in let xh = ix.high in let yl = iy.low in omega arith
  cases false e =
      let xl = ix.low in let xh = ix.high in let yl = iy.low in let yh = iy.high in
      (record { low = omega arith; high = omega arith }, record { low = omega arith; high = omega arith })

greater_or_equal_keeps : (a b : Range) (x y : ℕ) → In x a → In y b → y ≤ x → Keeps (greater_or_equal_edge a b) x y
greater_or_equal_keeps a b x y ix iy h = cases (ltb a.hi b.lo) refl where
  cases : (p : Bool) → ltb a.hi b.lo ≡ p → Keeps (cond p None (Some (ranges (range (max a.lo b.lo) a.hi) (range b.lo (min b.hi a.hi))))) x y
  cases true e =
      let less = ltb-true _ _ e in let xh = ix.high in let yl = iy.low in omega arith
  cases false e =
      let xl = ix.low in let xh = ix.high in let yl = iy.low in let yh = iy.high in
      (record { low = omega arith; high = omega arith }, record { low = omega arith; high = omega arith })

equal_keeps : (a b : Range) (x y : ℕ) → In x a → In y b → x ≡ y → Keeps (equal_edge a b) x y
equal_keeps a b x y ix iy h = cases (leb (max a.lo b.lo) (min a.hi b.hi)) refl where
  cases : (p : Bool) → leb (max a.lo b.lo) (min a.hi b.hi) ≡ p → Keeps (cond p (Some (ranges (range (max a.lo b.lo) (min a.hi b.hi)) (range (max a.lo b.lo) (min a.hi b.hi)))) None) x y
  cases true e =
      let xl = ix.low in let xh = ix.high in let yl = iy.low in let yh = iy.high in
      (record { low = omega arith; high = omega arith }, record { low = omega arith; high = omega arith })
  cases false e =
      let more = leb-false _ _ e in
      let xl = ix.low in let xh = ix.high in let yl = iy.low in let yh = iy.high in omega arith

without_keeps : (r : Range) (v x : ℕ) → In x r → x ≢ v → In x (without r v)
without_keeps r v x i h = cases (eqb r.lo v) (eqb r.hi v) refl refl where
  cases : (p q : Bool) → eqb r.lo v ≡ p → eqb r.hi v ≡ q → In x (cond p (range (r.lo + 1) r.hi) (cond q (range r.lo (r.hi - 1)) r))
  cases true q e f =
      let is = eqb-true _ _ e in let l = i.low in let u = i.high in
      record { low = omega (arith, below); high = omega arith } where
        below : r.lo + 1 ≤ x
        below = let is = eqb-true _ _ e in let l = i.low in omega (arith, h)
  cases false true e f =
      let l = i.low in record { low = omega arith; high = above } where
        above : x ≤ r.hi - 1
        above = let is = eqb-true _ _ f in let u = i.high in omega (arith, h)
  cases false false e f = i

unequal_keeps : (a b : Range) (x y : ℕ) → In x a → In y b → x ≢ y → Keeps (unequal_edge a b) x y
unequal_keeps a b x y ix iy h = (first (is_single b) refl, second (is_single a) refl) where
  first : (p : Bool) → is_single b ≡ p → In x (cond p (without a b.lo) a)
  first true e = let same = one_of b y e iy in without_keeps a b.lo x ix (λ k. h (k ∙ sym same))
  first false e = ix

  second : (p : Bool) → is_single a ≡ p → In y (cond p (without b a.lo) b)
  second true e = let same = one_of a x e ix in without_keeps b a.lo y iy (λ k. h (same ∙ sym k))
  second false e = iy

exchanged_keeps : (o : Option Ranges) (x y : ℕ) → Keeps o y x → Keeps (option_map exchanged o) x y
exchanged_keeps None x y h = h
exchanged_keeps (Some r) x y h = (h.1, h.0)

not_true : (b : Bool) → not b ≡ true → b ≡ false
not_true true e = absurd cc
not_true false e = refl

not_false : (b : Bool) → not b ≡ false → b ≡ true
not_false true e = refl
not_false false e = absurd cc

jset_keeps : (a b : Range) (x y : ℕ) → In x a → In y b → eqb (bit_and x y) 0 ≡ false → Keeps (cond (is_zero a || is_zero b) None (Some (ranges a b))) x y
jset_keeps a b x y ix iy h = cases (is_zero a) (is_zero b) refl refl where
  some : bit_and x y ≢ 0
  some = eqb-false _ _ h

  cases : (p q : Bool) → is_zero a ≡ p → is_zero b ≡ q → Keeps (cond (p || q) None (Some (ranges a b))) x y
  cases true q e f =
      let none = eqb-true a.hi 0 e in let xh = ix.high in let l = and_le_l x y in some (omega arith)
  cases false true e f =
      let none = eqb-true b.hi 0 f in let yh = iy.high in let l = and_le_r x y in some (omega arith)
  cases false false e f = (ix, iy)

-- ---- 32 bits

signed_keeps_32 : (a b : Range) (x y : ℕ) (o : Option Ranges) → In x a → In y b → (x < 2 ^ 31 → y < 2 ^ 31 → Keeps o x y) → Keeps (signed_edge W32 a b o) x y
signed_keeps_32 a b x y o ix iy h = cases (is_positive W32 a && is_positive W32 b) refl where
  cases : (p : Bool) → (is_positive W32 a && is_positive W32 b) ≡ p → Keeps (cond p o (Some (ranges a b))) x y
  cases true e =
      let both = and_true (is_positive W32 a) (is_positive W32 b) e in
      let one = ltb-true a.hi (2 ^ 31) both.0 in
      let two = ltb-true b.hi (2 ^ 31) both.1 in
      let xh = ix.high in let yh = iy.high in
      h (omega arith) (omega arith)
  cases false e = (ix, iy)

lt_32 : (x y : ℕ) → x < 2 ^ 31 → y < 2 ^ 31 → int_lt (cast_signed w32 x) (cast_signed w32 y) ≡ ltb x y
lt_32 x y hx hy = ap (λ (z : ℤ). int_lt z (cast_signed w32 y)) (to_z_pos w32 x hx) ∙ ap (int_lt (pos x)) (to_z_pos w32 y hy)

le_32 : (x y : ℕ) → x < 2 ^ 31 → y < 2 ^ 31 → int_le (cast_signed w32 x) (cast_signed w32 y) ≡ leb x y
le_32 x y hx hy = ap (λ (z : ℤ). int_le z (cast_signed w32 y)) (to_z_pos w32 x hx) ∙ ap (int_le (pos x)) (to_z_pos w32 y hy)

pub taken_keeps_32 : (t : Test) (a b : Range) (x y : ℕ) → In x a → In y b → test_of W32 t x y ≡ true → Keeps (taken_edge W32 t a b) x y
taken_keeps_32 Jeq a b x y ix iy e = equal_keeps a b x y ix iy (eqb-true _ _ e)
taken_keeps_32 Jne a b x y ix iy e = unequal_keeps a b x y ix iy (eqb-false _ _ (not_true _ e))
taken_keeps_32 Jgt a b x y ix iy e = greater_keeps a b x y ix iy (ltb-true _ _ e)
taken_keeps_32 Jge a b x y ix iy e = greater_or_equal_keeps a b x y ix iy (leb-true _ _ e)
taken_keeps_32 Jlt a b x y ix iy e = exchanged_keeps (greater_edge b a) x y (greater_keeps b a y x iy ix (ltb-true _ _ e))
taken_keeps_32 Jle a b x y ix iy e = exchanged_keeps (greater_or_equal_edge b a) x y (greater_or_equal_keeps b a y x iy ix (leb-true _ _ e))
taken_keeps_32 Jset a b x y ix iy e = jset_keeps a b x y ix iy (not_true _ e)
taken_keeps_32 Jsgt a b x y ix iy e = signed_keeps_32 a b x y (greater_edge a b) ix iy (λ hx hy. greater_keeps a b x y ix iy (ltb-true _ _ (sym (lt_32 y x hy hx) ∙ e)))
taken_keeps_32 Jsge a b x y ix iy e = signed_keeps_32 a b x y (greater_or_equal_edge a b) ix iy (λ hx hy. greater_or_equal_keeps a b x y ix iy (leb-true _ _ (sym (le_32 y x hy hx) ∙ e)))
taken_keeps_32 Jslt a b x y ix iy e = signed_keeps_32 a b x y (option_map exchanged (greater_edge b a)) ix iy (λ hx hy. exchanged_keeps (greater_edge b a) x y (greater_keeps b a y x iy ix (ltb-true _ _ (sym (lt_32 x y hx hy) ∙ e))))
taken_keeps_32 Jsle a b x y ix iy e = signed_keeps_32 a b x y (option_map exchanged (greater_or_equal_edge b a)) ix iy (λ hx hy. exchanged_keeps (greater_or_equal_edge b a) x y (greater_or_equal_keeps b a y x iy ix (leb-true _ _ (sym (le_32 x y hx hy) ∙ e))))

pub refuted_keeps_32 : (t : Test) (a b : Range) (x y : ℕ) → In x a → In y b → test_of W32 t x y ≡ false → Keeps (refuted_edge W32 t a b) x y
refuted_keeps_32 Jeq a b x y ix iy e = unequal_keeps a b x y ix iy (eqb-false _ _ e)
refuted_keeps_32 Jne a b x y ix iy e = equal_keeps a b x y ix iy (eqb-true _ _ (not_false _ e))
refuted_keeps_32 Jgt a b x y ix iy e = exchanged_keeps (greater_or_equal_edge b a) x y (greater_or_equal_keeps b a y x iy ix (ltb-false _ _ e))
refuted_keeps_32 Jge a b x y ix iy e = exchanged_keeps (greater_edge b a) x y (greater_keeps b a y x iy ix (leb-false _ _ e))
refuted_keeps_32 Jlt a b x y ix iy e = greater_or_equal_keeps a b x y ix iy (ltb-false _ _ e)
refuted_keeps_32 Jle a b x y ix iy e = greater_keeps a b x y ix iy (leb-false _ _ e)
refuted_keeps_32 Jset a b x y ix iy e = (ix, iy)
refuted_keeps_32 Jsgt a b x y ix iy e = signed_keeps_32 a b x y (option_map exchanged (greater_or_equal_edge b a)) ix iy (λ hx hy. exchanged_keeps (greater_or_equal_edge b a) x y (greater_or_equal_keeps b a y x iy ix (ltb-false _ _ (sym (lt_32 y x hy hx) ∙ e))))
refuted_keeps_32 Jsge a b x y ix iy e = signed_keeps_32 a b x y (option_map exchanged (greater_edge b a)) ix iy (λ hx hy. exchanged_keeps (greater_edge b a) x y (greater_keeps b a y x iy ix (leb-false _ _ (sym (le_32 y x hy hx) ∙ e))))
refuted_keeps_32 Jslt a b x y ix iy e = signed_keeps_32 a b x y (greater_or_equal_edge a b) ix iy (λ hx hy. greater_or_equal_keeps a b x y ix iy (ltb-false _ _ (sym (lt_32 x y hx hy) ∙ e)))
refuted_keeps_32 Jsle a b x y ix iy e = signed_keeps_32 a b x y (greater_edge a b) ix iy (λ hx hy. greater_keeps a b x y ix iy (leb-false _ _ (sym (le_32 x y hx hy) ∙ e)))

wide_keeps_32 : (t : Test) (a b : Range) (x y : ℕ) (taken : Bool) → In x a → In y b → test_of W32 t x y ≡ taken → Keeps (wide_edge W32 t a b taken) x y
wide_keeps_32 t a b x y true ix iy e = taken_keeps_32 t a b x y ix iy e
wide_keeps_32 t a b x y false ix iy e = refuted_keeps_32 t a b x y ix iy e

-- ---- 64 bits

signed_keeps_64 : (a b : Range) (x y : ℕ) (o : Option Ranges) → In x a → In y b → (x < 2 ^ 63 → y < 2 ^ 63 → Keeps o x y) → Keeps (signed_edge W64 a b o) x y
signed_keeps_64 a b x y o ix iy h = cases (is_positive W64 a && is_positive W64 b) refl where
  cases : (p : Bool) → (is_positive W64 a && is_positive W64 b) ≡ p → Keeps (cond p o (Some (ranges a b))) x y
  cases true e =
      let both = and_true (is_positive W64 a) (is_positive W64 b) e in
      let one = ltb-true a.hi (2 ^ 63) both.0 in
      let two = ltb-true b.hi (2 ^ 63) both.1 in
      let xh = ix.high in let yh = iy.high in
      h (omega arith) (omega arith)
  cases false e = (ix, iy)

lt_64 : (x y : ℕ) → x < 2 ^ 63 → y < 2 ^ 63 → int_lt (cast_signed w64 x) (cast_signed w64 y) ≡ ltb x y
lt_64 x y hx hy = ap (λ (z : ℤ). int_lt z (cast_signed w64 y)) (to_z_pos w64 x hx) ∙ ap (int_lt (pos x)) (to_z_pos w64 y hy)

le_64 : (x y : ℕ) → x < 2 ^ 63 → y < 2 ^ 63 → int_le (cast_signed w64 x) (cast_signed w64 y) ≡ leb x y
le_64 x y hx hy = ap (λ (z : ℤ). int_le z (cast_signed w64 y)) (to_z_pos w64 x hx) ∙ ap (int_le (pos x)) (to_z_pos w64 y hy)

pub taken_keeps_64 : (t : Test) (a b : Range) (x y : ℕ) → In x a → In y b → test_of W64 t x y ≡ true → Keeps (taken_edge W64 t a b) x y
taken_keeps_64 Jeq a b x y ix iy e = equal_keeps a b x y ix iy (eqb-true _ _ e)
taken_keeps_64 Jne a b x y ix iy e = unequal_keeps a b x y ix iy (eqb-false _ _ (not_true _ e))
taken_keeps_64 Jgt a b x y ix iy e = greater_keeps a b x y ix iy (ltb-true _ _ e)
taken_keeps_64 Jge a b x y ix iy e = greater_or_equal_keeps a b x y ix iy (leb-true _ _ e)
taken_keeps_64 Jlt a b x y ix iy e = exchanged_keeps (greater_edge b a) x y (greater_keeps b a y x iy ix (ltb-true _ _ e))
taken_keeps_64 Jle a b x y ix iy e = exchanged_keeps (greater_or_equal_edge b a) x y (greater_or_equal_keeps b a y x iy ix (leb-true _ _ e))
taken_keeps_64 Jset a b x y ix iy e = jset_keeps a b x y ix iy (not_true _ e)
taken_keeps_64 Jsgt a b x y ix iy e = signed_keeps_64 a b x y (greater_edge a b) ix iy (λ hx hy. greater_keeps a b x y ix iy (ltb-true _ _ (sym (lt_64 y x hy hx) ∙ e)))
taken_keeps_64 Jsge a b x y ix iy e = signed_keeps_64 a b x y (greater_or_equal_edge a b) ix iy (λ hx hy. greater_or_equal_keeps a b x y ix iy (leb-true _ _ (sym (le_64 y x hy hx) ∙ e)))
taken_keeps_64 Jslt a b x y ix iy e = signed_keeps_64 a b x y (option_map exchanged (greater_edge b a)) ix iy (λ hx hy. exchanged_keeps (greater_edge b a) x y (greater_keeps b a y x iy ix (ltb-true _ _ (sym (lt_64 x y hx hy) ∙ e))))
taken_keeps_64 Jsle a b x y ix iy e = signed_keeps_64 a b x y (option_map exchanged (greater_or_equal_edge b a)) ix iy (λ hx hy. exchanged_keeps (greater_or_equal_edge b a) x y (greater_or_equal_keeps b a y x iy ix (leb-true _ _ (sym (le_64 x y hx hy) ∙ e))))

pub refuted_keeps_64 : (t : Test) (a b : Range) (x y : ℕ) → In x a → In y b → test_of W64 t x y ≡ false → Keeps (refuted_edge W64 t a b) x y
refuted_keeps_64 Jeq a b x y ix iy e = unequal_keeps a b x y ix iy (eqb-false _ _ e)
refuted_keeps_64 Jne a b x y ix iy e = equal_keeps a b x y ix iy (eqb-true _ _ (not_false _ e))
refuted_keeps_64 Jgt a b x y ix iy e = exchanged_keeps (greater_or_equal_edge b a) x y (greater_or_equal_keeps b a y x iy ix (ltb-false _ _ e))
refuted_keeps_64 Jge a b x y ix iy e = exchanged_keeps (greater_edge b a) x y (greater_keeps b a y x iy ix (leb-false _ _ e))
refuted_keeps_64 Jlt a b x y ix iy e = greater_or_equal_keeps a b x y ix iy (ltb-false _ _ e)
refuted_keeps_64 Jle a b x y ix iy e = greater_keeps a b x y ix iy (leb-false _ _ e)
refuted_keeps_64 Jset a b x y ix iy e = (ix, iy)
refuted_keeps_64 Jsgt a b x y ix iy e = signed_keeps_64 a b x y (option_map exchanged (greater_or_equal_edge b a)) ix iy (λ hx hy. exchanged_keeps (greater_or_equal_edge b a) x y (greater_or_equal_keeps b a y x iy ix (ltb-false _ _ (sym (lt_64 y x hy hx) ∙ e))))
refuted_keeps_64 Jsge a b x y ix iy e = signed_keeps_64 a b x y (option_map exchanged (greater_edge b a)) ix iy (λ hx hy. exchanged_keeps (greater_edge b a) x y (greater_keeps b a y x iy ix (leb-false _ _ (sym (le_64 y x hy hx) ∙ e))))
refuted_keeps_64 Jslt a b x y ix iy e = signed_keeps_64 a b x y (greater_or_equal_edge a b) ix iy (λ hx hy. greater_or_equal_keeps a b x y ix iy (ltb-false _ _ (sym (lt_64 x y hx hy) ∙ e)))
refuted_keeps_64 Jsle a b x y ix iy e = signed_keeps_64 a b x y (greater_edge a b) ix iy (λ hx hy. greater_keeps a b x y ix iy (leb-false _ _ (sym (le_64 x y hx hy) ∙ e)))

wide_keeps_64 : (t : Test) (a b : Range) (x y : ℕ) (taken : Bool) → In x a → In y b → test_of W64 t x y ≡ taken → Keeps (wide_edge W64 t a b taken) x y
wide_keeps_64 t a b x y true ix iy e = taken_keeps_64 t a b x y ix iy e
wide_keeps_64 t a b x y false ix iy e = refuted_keeps_64 t a b x y ix iy e

-- ---- both classes

narrow_keeps : (t : Test) (a b : Range) (x y : ℕ) (taken : Bool) → In x a → In y b → jump_test_of t true x y ≡ taken → Keeps (narrow_edge t a b taken) x y
narrow_keeps t a b x y taken ix iy e = cases (ltb a.hi (2 ^ 32)) (ltb b.hi (2 ^ 32)) refl refl where
  cases : (p q : Bool) → ltb a.hi (2 ^ 32) ≡ p → ltb b.hi (2 ^ 32) ≡ q → Keeps (cond (p && q) (wide_edge W32 t a b taken) (Some (ranges a b))) x y
  cases true true f g =
      let one = ltb-true _ _ f in let two = ltb-true _ _ g in
      let xh = ix.high in let yh = iy.high in
      let sx : x % 2 ^ 32 ≡ x = mod-eq_of_lt (omega arith) in
      let sy : y % 2 ^ 32 ≡ y = mod-eq_of_lt (omega arith) in
      let is : test_of W32 t x y ≡ taken = sym (ap (λ (k : ℕ). test_of W32 t k (y % 2 ^ 32)) sx ∙ ap (test_of W32 t x) sy) ∙ e in
      wide_keeps_32 t a b x y taken ix iy is
  cases true false f g = (ix, iy)
  cases false q f g = (ix, iy)

edge_keeps : (t : Test) (narrow : Bool) (a b : Range) (x y : ℕ) (taken : Bool) → In x a → In y b → jump_test_of t narrow x y ≡ taken → Keeps (edge_of t narrow a b taken) x y
edge_keeps t true a b x y taken ix iy e = narrow_keeps t a b x y taken ix iy e
edge_keeps t false a b x y taken ix iy e = wide_keeps_64 t a b x y taken ix iy e

same_is : (a b : Bool) → a ≡ b → same a b ≡ true
same_is true true e = refl
same_is true false e = absurd cc
same_is false true e = absurd cc
same_is false false e = refl

pub refine_keeps : (t : Test) (narrow : Bool) (a b : Range) (taken : Bool) (x y : ℕ) → In x a → In y b → jump_test_of t narrow x y ≡ taken → Keeps (refine_of t narrow a b taken) x y
refine_keeps t narrow a b taken x y ix iy e = cases (is_single a && is_single b) refl where
  cases : (p : Bool) → (is_single a && is_single b) ≡ p → Keeps (cond p (cond (same (jump_test_of t narrow a.lo b.lo) taken) (Some (ranges a b)) None) (edge_of t narrow a b taken)) x y
  cases true f =
      let both = and_true (is_single a) (is_single b) f in
      let ea = one_of a x both.0 ix in
      let eb = one_of b y both.1 iy in
      let is : jump_test_of t narrow a.lo b.lo ≡ taken = sym (ap (λ (k : ℕ). jump_test_of t narrow k y) ea ∙ ap (jump_test_of t narrow a.lo) eb) ∙ e in
      subst (λ (c : Bool). Keeps (cond c (Some (ranges a b)) None) x y) (sym (same_is _ _ is)) (ix, iy)
  cases false f = edge_keeps t narrow a b x y taken ix iy e

-- one of the edges can be taken: the one that the lowest numbers take
pub some_edge : (t : Test) (narrow : Bool) (a b : Range) → a.lo ≤ a.hi → b.lo ≤ b.hi → Keeps (refine_of t narrow a b (jump_test_of t narrow a.lo b.lo)) a.lo b.lo
some_edge t narrow a b ha hb =
    refine_keeps t narrow a b (jump_test_of t narrow a.lo b.lo) a.lo b.lo (record { low = omega arith; high = ha }) (record { low = omega arith; high = hb }) refl
