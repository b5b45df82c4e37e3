-- What an operation makes of narrower ranges is narrower.
use Rattle.std.proofs.Common.{◌≡◌, ℕ, ◌+◌, ◌-◌, ◌*◌, ◌/◌, ◌%◌, ◌^◌, ◌<◌, ◌≤◌, min, max, Bool, true, false, ◌&&◌, cond, leb, ltb, refl, sym, ap, subst, ◌∙◌, arith, inl, inr}
use Rattle.std.specs.Prelude.{not}
use Rattle.std.specs.Int.{w64, leading_zeros}
use Rattle.std.proofs.lemmas.Bool.{leb-true, leb-false, ltb-true, ltb-false, eqb-true, eq-eqb, le-leb, lt-leb, lt-ltb, and_parts, and_from, cases_lt, false_from_ne_true}
use Rattle.std.proofs.lemmas.Nat.{mul-le, le-div, div-add-mod', pow_pos, pow-add, leading_length, mod_below}
use Rattle.std.proofs.Math.Nat.{mod-eq_of_lt, mod-eq-sub-mod, pow-le-pow_right, div-le_self}
use Rattle.bpf_num.specs.declared.AluOp.{AluOp}
use Rattle.bpf_num.specs.declared.AluOp.TheVariants.{Add, Sub, Mul, Div, Sdiv, Or, And, Lsh, Rsh, Neg, Mod, Smod, Xor, Mov, Movsx8, Movsx16, Movsx32, Arsh}
use Rattle.bpf_num.specs.declared.AluWidth.{AluWidth}
use Rattle.bpf_num.specs.declared.AluWidth.TheVariants.{W32, W64}
use Rattle.bpf_num.specs.declared.swap.SwapKind.{SwapKind}
use Rattle.bpf_num.specs.declared.swap.SwapKind.TheVariants.{Le, Be, Swap}
use Rattle.bpf_num.specs.declared.swap.Width.{Width}
use Rattle.bpf_num.specs.ByteSwap.{swap_bits, byte_swap_of}
use Rattle.bpf_num.specs.Arithmetic.{bits_of, modulus, result_of}
use Rattle.reg_ranges.specs.Ranges.{Range, In, range, single, is_single, full, alike, difference_range, quotient_range, rest_range, right_shift_range, is_positive, extended_range, negation_range, wide_range, transfer_of, truncate, swap_range_of}
use Rattle.reg_ranges.proofs.Sound.{wide_in_32, wide_in_64, transfer_in_32, transfer_in_64, truncate_in, modulus_small}
use Rattle.bpf_model.specs.AbstractState.{transfer}
use Rattle.bpf_model.proofs.RangeLaws.{IsRange, swap_in}

-- a range that holds a number, and none that the other doesn't hold
pub record IsWithin (a b : Range) : Type 0 where
  pub low : b.lo ≤ a.lo
  pub some : a.lo ≤ a.hi
  pub high : a.hi ≤ b.hi

pub widen : (a b c : Range) → IsWithin a b → c.lo ≤ b.lo → b.hi ≤ c.hi → IsWithin a c
widen a b c p low high = record { low = omega arith; some = p.some; high = omega arith }

pub within_self : (a : Range) → a.lo ≤ a.hi → IsWithin a a
within_self a some = record { low = omega arith; some = some; high = omega arith }

-- a number of a range
one_within : (v : ℕ) (r : Range) → In v r → IsWithin (single v) r
one_within v r i = record { low = i.low; some = omega arith; high = i.high }

-- within a single number there is that one alone
pub single_is : (a b : Range) → IsWithin a b → is_single b ≡ true → (a.lo ≡ b.lo) × (a.hi ≡ b.lo)
single_is a b p e = let same = eqb-true b.lo b.hi e in (omega arith, omega arith)

pub single_within : (a b : Range) → IsWithin a b → is_single b ≡ true → is_single a ≡ true
single_within a b p e = let is = single_is a b p e in let lo = is.0 in let hi = is.1 in eq-eqb a.lo a.hi (omega arith)

-- where both are chosen alike
cond_within : (p q : Bool) (x y z : Range) → (q ≡ true → p ≡ true) → (q ≡ true → IsWithin x y) → (p ≡ true → IsWithin x z) → z.lo ≤ z.hi → IsWithin (cond p x z) (cond q y z)
cond_within true true x y z carries here wide some = here refl
cond_within true false x y z carries here wide some = wide refl
cond_within false true x y z carries here wide some = absurd (let e = carries refl in cc)
cond_within false false x y z carries here wide some = within_self z some

-- ---- numbers that may wrap

alike_cases : (p q : Bool) → alike p q ≡ true → p ≡ q
alike_cases true true e = refl
alike_cases true false e = absurd cc
alike_cases false true e = absurd cc
alike_cases false false e = refl

-- what lies between two numbers that wrap alike wraps alike
between : (m w x y z : ℕ) → w ≤ x → x ≤ y → y ≤ z → alike (leb m w) (leb m z) ≡ true → alike (leb m x) (leb m y) ≡ true
between m w x y z low some high e = cases (leb m w) refl where
  cases : (p : Bool) → leb m w ≡ p → alike (leb m x) (leb m y) ≡ true
  cases true f =
      let reaches = leb-true m w f in
      rw (le-leb m x (omega arith), le-leb m y (omega arith)) refl
  cases false f =
      let below = leb-false m z (sym (alike_cases (leb m w) (leb m z) e) ∙ f) in
      rw (lt-leb m x (omega arith), lt-leb m y (omega arith)) refl

wrapped : (m x : ℕ) → m ≤ x → x < m + m → x % m ≡ x - m
wrapped m x low high = mod-eq-sub-mod low ∙ mod-eq_of_lt (omega arith)

ordered : (m x y : ℕ) → x ≤ y → y < m + m → alike (leb m x) (leb m y) ≡ true → x % m ≤ y % m
ordered m x y some below e = cases (leb m x) refl where
  cases : (p : Bool) → leb m x ≡ p → x % m ≤ y % m
  cases true f =
      let reaches = leb-true m x f in
      let first = wrapped m x (omega arith) (omega arith) in
      let second = wrapped m y (omega arith) (omega arith) in
      omega (arith, first, second)
  cases false f =
      let less = leb-false m y (sym (alike_cases (leb m x) (leb m y) e) ∙ f) in
      let first : x % m ≡ x = mod-eq_of_lt (omega arith) in
      let second : y % m ≡ y = mod-eq_of_lt less in
      omega (arith, first, second)

abbrev wrap : ℕ → ℕ → ℕ → Range
wrap m x y = cond (alike (leb m x) (leb m y)) (range (x % m) (y % m)) (range 0 (m - 1))

wrap_within : (m w x y z : ℕ) → w ≤ x → x ≤ y → y ≤ z → z < m + m → IsWithin (wrap m x y) (wrap m w z)
wrap_within m w x y z low some high below =
    cond_within (alike (leb m x) (leb m y)) (alike (leb m w) (leb m z)) (range (x % m) (y % m)) (range (w % m) (z % m)) (range 0 (m - 1)) (λ e. between m w x y z low some high e) (λ e. record {
      low = ordered m w x low (omega arith) (between m w w x z (omega arith) low (omega arith) e);
      some = ordered m x y some (omega arith) (between m w x y z low some high e);
      high = ordered m y z high below (between m w y z z (omega arith) high (omega arith) e);
    }) (λ e. let top = mod_below y m (omega arith) in record { low = omega arith; some = ordered m x y some (omega arith) e; high = omega arith }) (omega arith)

sum_within : (m : ℕ) (a b c d : Range) → IsWithin a c → IsWithin b d → c.hi < m → d.hi < m → IsWithin (wrap m (a.lo + b.lo) (a.hi + b.hi)) (wrap m (c.lo + d.lo) (c.hi + d.hi))
sum_within m a b c d p q hc hd =
    wrap_within m (c.lo + d.lo) (a.lo + b.lo) (a.hi + b.hi) (c.hi + d.hi) (omega arith) (omega arith) (omega arith) (omega arith)

not_alike : (p q : Bool) → alike (not p) (not q) ≡ alike p q
not_alike true true = refl
not_alike true false = refl
not_alike false true = refl
not_alike false false = refl

-- a difference that is negative is one that doesn't reach m, where m is added to it
negative : (m x y : ℕ) → y < m → ltb x y ≡ not (leb m (x + (m - y)))
negative m x y small = cases (ltb x y) refl where
  cases : (p : Bool) → ltb x y ≡ p → p ≡ not (leb m (x + (m - y)))
  cases true e = let less = ltb-true x y e in rw (lt-leb m (x + (m - y)) (omega arith)) refl
  cases false e = let more = ltb-false x y e in rw (le-leb m (x + (m - y)) (omega arith)) refl

difference_is : (m : ℕ) (c d : Range) → c.hi < m → d.lo ≤ d.hi → d.hi < m → cond (alike (ltb c.lo d.hi) (ltb c.hi d.lo)) (range ((c.lo + (m - d.hi)) % m) ((c.hi + (m - d.lo)) % m)) (range 0 (m - 1)) ≡ wrap m (c.lo + (m - d.hi)) (c.hi + (m - d.lo))
difference_is m c d hc some hd =
    let first = negative m c.lo d.hi hd in
    let second = negative m c.hi d.lo (omega arith) in
    ap (λ (p : Bool). cond (alike p (ltb c.hi d.lo)) (range ((c.lo + (m - d.hi)) % m) ((c.hi + (m - d.lo)) % m)) (range 0 (m - 1))) first
    ∙ ap (λ (p : Bool). cond (alike (not (leb m (c.lo + (m - d.hi)))) p) (range ((c.lo + (m - d.hi)) % m) ((c.hi + (m - d.lo)) % m)) (range 0 (m - 1))) second
    ∙ ap (λ (p : Bool). cond p (range ((c.lo + (m - d.hi)) % m) ((c.hi + (m - d.lo)) % m)) (range 0 (m - 1))) (not_alike (leb m (c.lo + (m - d.hi))) (leb m (c.hi + (m - d.lo))))

difference_within : (m : ℕ) (a b c d : Range) → IsWithin a c → IsWithin b d → c.hi < m → d.hi < m → IsWithin (wrap m (a.lo + (m - b.hi)) (a.hi + (m - b.lo))) (wrap m (c.lo + (m - d.hi)) (c.hi + (m - d.lo)))
difference_within m a b c d p q hc hd =
    wrap_within m (c.lo + (m - d.hi)) (a.lo + (m - b.hi)) (a.hi + (m - b.lo)) (c.hi + (m - d.lo)) (omega arith) (omega arith) (omega arith) (omega arith)

-- ---- products, quotients and shifts

div_le : (x y m n : ℕ) → x ≤ y → 0 < n → n ≤ m → x / m ≤ y / n
div_le x y m n low some high =
    let whole = div-add-mod' x m in
    let less = mul-le (x / m) n (x / m) m (omega arith) high in
    le-div (x / m) y n some (omega arith)

product_within : (m : ℕ) (a b c d : Range) → IsWithin a c → IsWithin b d → 0 < m → IsWithin (cond (ltb (a.hi * b.hi) m) (range (a.lo * b.lo) (a.hi * b.hi)) (range 0 (m - 1))) (cond (ltb (c.hi * d.hi) m) (range (c.lo * d.lo) (c.hi * d.hi)) (range 0 (m - 1)))
product_within m a b c d p q pos =
    let low = mul-le c.lo d.lo a.lo b.lo p.low q.low in
    let some = mul-le a.lo b.lo a.hi b.hi p.some q.some in
    let high = mul-le a.hi b.hi c.hi d.hi p.high q.high in
    cond_within (ltb (a.hi * b.hi) m) (ltb (c.hi * d.hi) m) (range (a.lo * b.lo) (a.hi * b.hi)) (range (c.lo * d.lo) (c.hi * d.hi)) (range 0 (m - 1)) (λ e. let less = ltb-true (c.hi * d.hi) m e in lt-ltb (a.hi * b.hi) m (omega (arith, high, less))) (λ e. record { low = low; some = some; high = high }) (λ e. let less = ltb-true (a.hi * b.hi) m e in record { low = omega arith; some = some; high = omega (arith, less) }) (omega arith)

quotient_top : (a b : Range) → a.lo ≤ a.hi → b.lo ≤ b.hi → IsWithin (quotient_range a b) (range 0 a.hi)
quotient_top a b some_a some_b = cases (ltb 0 b.lo) refl where
  cases : (p : Bool) → ltb 0 b.lo ≡ p → IsWithin (cond p (range (a.lo / b.hi) (a.hi / b.lo)) (range 0 a.hi)) (range 0 a.hi)
  cases true e =
      record { low = omega arith; some = div_le a.lo a.hi b.hi b.lo some_a (ltb-true 0 b.lo e) some_b; high = div-le_self a.hi b.lo }
  cases false e = record { low = omega arith; some = omega arith; high = omega arith }

quotient_within : (a b c d : Range) → IsWithin a c → IsWithin b d → IsWithin (quotient_range a b) (quotient_range c d)
quotient_within a b c d p q = cases (ltb 0 d.lo) refl where
  cases : (s : Bool) → ltb 0 d.lo ≡ s → IsWithin (quotient_range a b) (cond s (range (c.lo / d.hi) (c.hi / d.lo)) (range 0 c.hi))
  cases true e =
      let pos = ltb-true 0 d.lo e in
      let low = div_le c.lo a.lo d.hi b.hi p.low (omega arith) q.high in
      let some = div_le a.lo a.hi b.hi b.lo p.some (omega arith) q.some in
      let high = div_le a.hi c.hi b.lo d.lo p.high pos q.low in
      rw (lt-ltb 0 b.lo (omega arith)) (record { low = low; some = some; high = high })
  cases false e = widen (quotient_range a b) (range 0 a.hi) (range 0 c.hi) (quotient_top a b p.some q.some) (omega arith) p.high

rest_top : (a b : Range) → a.lo ≤ a.hi → IsWithin (rest_range a b) (range 0 a.hi)
rest_top a b some = cases (ltb 0 b.lo) (ltb a.hi b.lo) where
  cases : (p q : Bool) → IsWithin (cond p (cond q a (range 0 (min a.hi (b.hi - 1)))) (range 0 a.hi)) (range 0 a.hi)
  cases true true = record { low = omega arith; some = some; high = omega arith }
  cases true false = record { low = omega arith; some = omega arith; high = omega arith }
  cases false q = record { low = omega arith; some = omega arith; high = omega arith }

rest_within : (a b c d : Range) → IsWithin a c → IsWithin b d → IsWithin (rest_range a b) (rest_range c d)
rest_within a b c d p q = cases (ltb 0 d.lo) (ltb c.hi d.lo) refl refl where
  inner : (r : Bool) → ltb a.hi b.lo ≡ r → 0 < d.lo → IsWithin (cond r a (range 0 (min a.hi (b.hi - 1)))) (range 0 (min c.hi (d.hi - 1)))
  inner true e pos = let less = ltb-true a.hi b.lo e in record { low = omega arith; some = p.some; high = omega arith }
  inner false e pos = record { low = omega arith; some = omega arith; high = omega arith }

  cases : (s t : Bool) → ltb 0 d.lo ≡ s → ltb c.hi d.lo ≡ t → IsWithin (rest_range a b) (cond s (cond t c (range 0 (min c.hi (d.hi - 1)))) (range 0 c.hi))
  cases true true e f =
      let pos = ltb-true 0 d.lo e in
      let less = ltb-true c.hi d.lo f in
      rw (lt-ltb 0 b.lo (omega arith), lt-ltb a.hi b.lo (omega arith)) p
  cases true false e f =
      let pos = ltb-true 0 d.lo e in rw (lt-ltb 0 b.lo (omega arith)) (inner (ltb a.hi b.lo) refl pos)
  cases false t e f = widen (rest_range a b) (range 0 a.hi) (range 0 c.hi) (rest_top a b p.some) (omega arith) p.high

left_shift_within : (m n : ℕ) (a b c d : Range) → IsWithin a c → IsWithin b d → 0 < m → IsWithin (cond (is_single b && ltb (a.hi * 2 ^ (b.lo % n)) m) (range (a.lo * 2 ^ (b.lo % n)) (a.hi * 2 ^ (b.lo % n))) (range 0 (m - 1))) (cond (is_single d && ltb (c.hi * 2 ^ (d.lo % n)) m) (range (c.lo * 2 ^ (d.lo % n)) (c.hi * 2 ^ (d.lo % n))) (range 0 (m - 1)))
left_shift_within m n a b c d p q pos =
    cond_within (is_single b && ltb (a.hi * 2 ^ (b.lo % n)) m) (is_single d && ltb (c.hi * 2 ^ (d.lo % n)) m) (range (a.lo * 2 ^ (b.lo % n)) (a.hi * 2 ^ (b.lo % n))) (range (c.lo * 2 ^ (d.lo % n)) (c.hi * 2 ^ (d.lo % n))) (range 0 (m - 1)) carries here (λ e. let less = ltb-true (a.hi * 2 ^ (b.lo % n)) m (and_parts (is_single b) (ltb (a.hi * 2 ^ (b.lo % n)) m) e).1 in let some = mul-le a.lo (2 ^ (b.lo % n)) a.hi (2 ^ (b.lo % n)) p.some (omega arith) in record { low = omega arith; some = some; high = omega (arith, less) }) (omega arith) where
      same : is_single d ≡ true → 2 ^ (b.lo % n) ≡ 2 ^ (d.lo % n)
      same e = ap (λ (k : ℕ). 2 ^ (k % n)) (single_is b d q e).0

      carries : (is_single d && ltb (c.hi * 2 ^ (d.lo % n)) m) ≡ true → (is_single b && ltb (a.hi * 2 ^ (b.lo % n)) m) ≡ true
      carries e =
          let both = and_parts (is_single d) (ltb (c.hi * 2 ^ (d.lo % n)) m) e in
          let less = ltb-true (c.hi * 2 ^ (d.lo % n)) m both.1 in
          let is = ap (λ (k : ℕ). a.hi * k) (same both.0) in
          let high = mul-le a.hi (2 ^ (d.lo % n)) c.hi (2 ^ (d.lo % n)) p.high (omega arith) in
          and_from (is_single b) (ltb (a.hi * 2 ^ (b.lo % n)) m) (single_within b d q both.0) (lt-ltb (a.hi * 2 ^ (b.lo % n)) m (omega (arith, is, high, less)))

      here : (is_single d && ltb (c.hi * 2 ^ (d.lo % n)) m) ≡ true → IsWithin (range (a.lo * 2 ^ (b.lo % n)) (a.hi * 2 ^ (b.lo % n))) (range (c.lo * 2 ^ (d.lo % n)) (c.hi * 2 ^ (d.lo % n)))
      here e =
          let one = (and_parts (is_single d) (ltb (c.hi * 2 ^ (d.lo % n)) m) e).0 in
          subst (λ (k : ℕ). IsWithin (range (a.lo * k) (a.hi * k)) (range (c.lo * 2 ^ (d.lo % n)) (c.hi * 2 ^ (d.lo % n)))) (sym (same one)) (record {
            low = mul-le c.lo (2 ^ (d.lo % n)) a.lo (2 ^ (d.lo % n)) p.low (omega arith);
            some = mul-le a.lo (2 ^ (d.lo % n)) a.hi (2 ^ (d.lo % n)) p.some (omega arith);
            high = mul-le a.hi (2 ^ (d.lo % n)) c.hi (2 ^ (d.lo % n)) p.high (omega arith);
          })

right_shift_top : (width : AluWidth) (a b : Range) → a.lo ≤ a.hi → IsWithin (right_shift_range width a b) (range 0 a.hi)
right_shift_top width a b some = cases (is_single b) where
  cases : (p : Bool) → IsWithin (cond p (range (a.lo / 2 ^ (b.lo % bits_of width)) (a.hi / 2 ^ (b.lo % bits_of width))) (range 0 a.hi)) (range 0 a.hi)
  cases true =
      let pos = pow_pos (b.lo % bits_of width) in
      record { low = omega arith; some = div_le a.lo a.hi (2 ^ (b.lo % bits_of width)) (2 ^ (b.lo % bits_of width)) some pos (omega arith); high = div-le_self a.hi (2 ^ (b.lo % bits_of width)) }
  cases false = record { low = omega arith; some = omega arith; high = omega arith }

right_shift_within : (width : AluWidth) (a b c d : Range) → IsWithin a c → IsWithin b d → IsWithin (right_shift_range width a b) (right_shift_range width c d)
right_shift_within width a b c d p q = cases (is_single d) refl where
  cases : (s : Bool) → is_single d ≡ s → IsWithin (right_shift_range width a b) (cond s (range (c.lo / 2 ^ (d.lo % bits_of width)) (c.hi / 2 ^ (d.lo % bits_of width))) (range 0 c.hi))
  cases true e =
      let pos = pow_pos (d.lo % bits_of width) in
      let same : 2 ^ (d.lo % bits_of width) ≡ 2 ^ (b.lo % bits_of width) = ap (λ (k : ℕ). 2 ^ (k % bits_of width)) (sym (single_is b d q e).0) in
      rw (single_within b d q e) (subst (λ (k : ℕ). IsWithin (range (a.lo / k) (a.hi / k)) (range (c.lo / 2 ^ (d.lo % bits_of width)) (c.hi / 2 ^ (d.lo % bits_of width)))) same (record {
        low = div_le c.lo a.lo (2 ^ (d.lo % bits_of width)) (2 ^ (d.lo % bits_of width)) p.low pos (omega arith);
        some = div_le a.lo a.hi (2 ^ (d.lo % bits_of width)) (2 ^ (d.lo % bits_of width)) p.some pos (omega arith);
        high = div_le a.hi c.hi (2 ^ (d.lo % bits_of width)) (2 ^ (d.lo % bits_of width)) p.high pos (omega arith);
      }))
  cases false e =
      widen (right_shift_range width a b) (range 0 a.hi) (range 0 c.hi) (right_shift_top width a b p.some) (omega arith) p.high

-- ---- bits

exponent_le : (i j x y : ℕ) → 2 ^ i ≤ 2 * x + 1 → x ≤ y → y < 2 ^ j → i ≤ j
exponent_le i j x y low le high =
    elim (cases_lt j i) [
      | inl less ↦
          let more = pow-le-pow_right {n = 2} (omega arith) {i = j + 1} {j = i} (omega arith) in
          let twice = pow-add 2 j 1 in
          absurd (omega (arith, more, twice))
      | inr more ↦ more
    ]

bits_reach : (x : ℕ) → x < 2 ^ 64 → x < 2 ^ (64 - leading_zeros w64 x)
bits_reach x below =
    let s = leading_length 64 x below in
    let sum = s.1 in
    let same : s.0 ≡ 64 - leading_zeros w64 x = omega (arith, sum) in
    subst (λ (k : ℕ). x < 2 ^ k) same s.2

bits_le : (x y : ℕ) → x ≤ y → y < 2 ^ 64 → 2 ^ (64 - leading_zeros w64 x) ≤ 2 ^ (64 - leading_zeros w64 y)
bits_le x y le below =
    let s = leading_length 64 x (omega arith) in
    let t = leading_length 64 y below in
    let sum_s = s.1 in
    let sum_t = t.1 in
    let less = exponent_le s.0 t.0 x y s.3 le t.2 in
    pow-le-pow_right {n = 2} (omega arith) {i = 64 - leading_zeros w64 x} {j = 64 - leading_zeros w64 y} (omega (arith, sum_s, sum_t, less))

-- ---- signs

positive_within : (width : AluWidth) (a c : Range) → IsWithin a c → is_positive width c ≡ true → is_positive width a ≡ true
positive_within width a c p e =
    let less = ltb-true c.hi (2 ^ (bits_of width - 1)) e in lt-ltb a.hi (2 ^ (bits_of width - 1)) (omega (arith, less))

pub positive_both : (width : AluWidth) (a b c d : Range) → IsWithin a c → IsWithin b d → (is_positive width c && is_positive width d) ≡ true → (is_positive width a && is_positive width b) ≡ true
positive_both width a b c d p q e =
    let both = and_parts (is_positive width c) (is_positive width d) e in
    and_from (is_positive width a) (is_positive width b) (positive_within width a c p both.0) (positive_within width b d q both.1)

-- ---- a row of the table

modulus_some : (width : AluWidth) → 0 < modulus width
modulus_some W32 = omega arith
modulus_some W64 = omega arith

-- a result of numbers in two ranges
wide_in : (width : AluWidth) (op : AluOp) (c d : Range) (x y : ℕ) → c.hi < modulus width → d.hi < modulus width → In x c → In y d → In (result_of width op x y) (wide_range width op c d)
wide_in W32 op c d x y hc hd ix iy = wide_in_32 op c d x y hc hd ix iy
wide_in W64 op c d x y hc hd ix iy = wide_in_64 op c d x y hc hd ix iy

pub low_in : (a c : Range) → IsWithin a c → In a.lo c
low_in a c p = record { low = p.low; high = omega arith }

-- the lowest numbers' result
low_result : (width : AluWidth) (op : AluOp) (a b c d : Range) → IsWithin a c → IsWithin b d → c.hi < modulus width → d.hi < modulus width → IsWithin (single (result_of width op a.lo b.lo)) (wide_range width op c d)
low_result width op a b c d p q hc hd =
    one_within (result_of width op a.lo b.lo) (wide_range width op c d) (wide_in width op c d a.lo b.lo hc hd (low_in a c p) (low_in b d q))

negation_within : (width : AluWidth) (a b c d : Range) → IsWithin a c → IsWithin b d → c.hi < modulus width → d.hi < modulus width → IsWithin (negation_range width a) (negation_range width c)
negation_within width a b c d p q hc hd = cases (is_single a) refl where
  wide : is_single c ≡ false → IsWithin (cond (ltb 0 a.lo) (range (modulus width - a.hi) (modulus width - a.lo)) (full width)) (negation_range width c)
  wide e =
      rw e (cond_within (ltb 0 a.lo) (ltb 0 c.lo) (range (modulus width - a.hi) (modulus width - a.lo)) (range (modulus width - c.hi) (modulus width - c.lo)) (full width) (λ f. let some = ltb-true 0 c.lo f in lt-ltb 0 a.lo (omega arith)) (λ f. record { low = omega arith; some = omega arith; high = omega arith }) (λ f. let some = ltb-true 0 a.lo f in record { low = omega arith; some = omega arith; high = omega arith }) (omega arith))

  cases : (s : Bool) → is_single a ≡ s → IsWithin (cond s (single (result_of width Neg a.lo 0)) (cond (ltb 0 a.lo) (range (modulus width - a.hi) (modulus width - a.lo)) (full width))) (negation_range width c)
  cases true e = low_result width Neg a b c d p q hc hd
  cases false e = wide (false_from_ne_true (is_single c) (λ f. let one = sym (single_within a c p f) ∙ e in cc))

extended_within : (width : AluWidth) (op : AluOp) (bits : ℕ) (b d : Range) → IsWithin b d → d.hi < modulus width → IsWithin (single (result_of width op 0 b.lo)) (extended_range width op bits d) → IsWithin (extended_range width op bits b) (extended_range width op bits d)
extended_within width op bits b d q hd one = cases (is_single b) (is_single d) refl refl where
  wide : IsWithin (cond (ltb b.hi (2 ^ (bits - 1))) b (full width)) (cond (ltb d.hi (2 ^ (bits - 1))) d (full width))
  wide =
      cond_within (ltb b.hi (2 ^ (bits - 1))) (ltb d.hi (2 ^ (bits - 1))) b d (full width) (λ e. let less = ltb-true d.hi (2 ^ (bits - 1)) e in lt-ltb b.hi (2 ^ (bits - 1)) (omega (arith, less))) (λ e. q) (λ e. record { low = omega arith; some = q.some; high = omega arith }) (omega arith)

  cases : (s t : Bool) → is_single b ≡ s → is_single d ≡ t → IsWithin (cond s (single (result_of width op 0 b.lo)) (cond (ltb b.hi (2 ^ (bits - 1))) b (full width))) (extended_range width op bits d)
  cases true t e f = one
  cases false true e f = absurd (let single = sym (single_within b d q f) ∙ e in cc)
  cases false false e f = rw f wide

signed_within : (width : AluWidth) (a b c d x y : Range) → IsWithin a c → IsWithin b d → IsWithin x y → IsWithin x (range 0 a.hi) → c.hi < modulus width → IsWithin (cond (is_positive width a && is_positive width b) x (full width)) (cond (is_positive width c && is_positive width d) y (full width))
signed_within width a b c d x y p q here top hc =
    cond_within (is_positive width a && is_positive width b) (is_positive width c && is_positive width d) x y (full width) (λ e. positive_both width a b c d p q e) (λ e. here) (λ e. widen x (range 0 a.hi) (full width) top (omega arith) (omega arith)) (omega arith)

wide_within : (width : AluWidth) (op : AluOp) (a b c d : Range) → IsWithin a c → IsWithin b d → c.hi < modulus width → d.hi < modulus width → IsWithin (wide_range width op a b) (wide_range width op c d)
wide_within width Add a b c d p q hc hd = sum_within (modulus width) a b c d p q hc hd
wide_within width Sub a b c d p q hc hd =
    subst (λ (r : Range). IsWithin r (difference_range width c d)) (sym (difference_is (modulus width) a b (omega arith) q.some (omega arith))) (subst (λ (r : Range). IsWithin (wrap (modulus width) (a.lo + (modulus width - b.hi)) (a.hi + (modulus width - b.lo))) r) (sym (difference_is (modulus width) c d hc (omega arith) hd)) (difference_within (modulus width) a b c d p q hc hd))
wide_within width Mul a b c d p q hc hd = product_within (modulus width) a b c d p q (modulus_some width)
wide_within width Div a b c d p q hc hd = quotient_within a b c d p q
wide_within width Sdiv a b c d p q hc hd =
    signed_within width a b c d (quotient_range a b) (quotient_range c d) p q (quotient_within a b c d p q) (quotient_top a b p.some q.some) hc
wide_within width Or a b c d p q hc hd =
    let small = modulus_small width in
    let top = bits_le (max a.hi b.hi) (max c.hi d.hi) (omega arith) (omega arith) in
    let above = bits_reach (max a.hi b.hi) (omega arith) in
    record { low = omega arith; some = omega (arith, above); high = omega (arith, top) }
wide_within width And a b c d p q hc hd = record { low = omega arith; some = omega arith; high = omega arith }
wide_within width Lsh a b c d p q hc hd = left_shift_within (modulus width) (bits_of width) a b c d p q (modulus_some width)
wide_within width Rsh a b c d p q hc hd = right_shift_within width a b c d p q
wide_within width Neg a b c d p q hc hd = negation_within width a b c d p q hc hd
wide_within width Mod a b c d p q hc hd = rest_within a b c d p q
wide_within width Smod a b c d p q hc hd =
    signed_within width a b c d (rest_range a b) (rest_range c d) p q (rest_within a b c d p q) (rest_top a b p.some) hc
wide_within width Xor a b c d p q hc hd =
    let small = modulus_small width in
    let top = bits_le (max a.hi b.hi) (max c.hi d.hi) (omega arith) (omega arith) in
    record { low = omega arith; some = omega arith; high = omega (arith, top) }
wide_within width Mov a b c d p q hc hd = q
wide_within width Movsx8 a b c d p q hc hd = extended_within width Movsx8 8 b d q hd (low_result width Movsx8 a b c d p q hc hd)
wide_within width Movsx16 a b c d p q hc hd = extended_within width Movsx16 16 b d q hd (low_result width Movsx16 a b c d p q hc hd)
wide_within width Movsx32 a b c d p q hc hd = extended_within width Movsx32 32 b d q hd (low_result width Movsx32 a b c d p q hc hd)
wide_within width Arsh a b c d p q hc hd =
    cond_within (is_positive width a) (is_positive width c) (right_shift_range width a b) (right_shift_range width c d) (full width) (λ e. positive_within width a c p e) (λ e. right_shift_within width a b c d p q) (λ e. widen (right_shift_range width a b) (range 0 a.hi) (full width) (right_shift_top width a b p.some) (omega arith) (omega arith)) (omega arith)

transfer_in : (width : AluWidth) (op : AluOp) (c d : Range) (x y : ℕ) → c.hi < modulus width → d.hi < modulus width → In x c → In y d → In (result_of width op x y) (transfer_of width op c d)
transfer_in W32 op c d x y hc hd ix iy = transfer_in_32 op c d x y hc hd ix iy
transfer_in W64 op c d x y hc hd ix iy = transfer_in_64 op c d x y hc hd ix iy

transfer_of_within : (width : AluWidth) (op : AluOp) (a b c d : Range) → IsWithin a c → IsWithin b d → c.hi < modulus width → d.hi < modulus width → IsWithin (transfer_of width op a b) (transfer_of width op c d)
transfer_of_within width op a b c d p q hc hd = cases (is_single a && is_single b) (is_single c && is_single d) refl refl where
  cases : (s t : Bool) → (is_single a && is_single b) ≡ s → (is_single c && is_single d) ≡ t → IsWithin (cond s (single (result_of width op a.lo b.lo)) (wide_range width op a b)) (transfer_of width op c d)
  cases true t e f =
      one_within (result_of width op a.lo b.lo) (transfer_of width op c d) (transfer_in width op c d a.lo b.lo hc hd (low_in a c p) (low_in b d q))
  cases false true e f =
      let both = and_parts (is_single c) (is_single d) f in
      absurd (let single = sym (and_from (is_single a) (is_single b) (single_within a c p both.0) (single_within b d q both.1)) ∙ e in cc)
  cases false false e f = rw f (wide_within width op a b c d p q hc hd)

truncate_within : (a c : Range) → IsWithin a c → IsWithin (truncate a) (truncate c)
truncate_within a c p = cases (is_single a) refl where
  wide : is_single c ≡ false → IsWithin (cond (ltb a.hi (2 ^ 32)) a (full W32)) (truncate c)
  wide e =
      rw e (cond_within (ltb a.hi (2 ^ 32)) (ltb c.hi (2 ^ 32)) a c (full W32) (λ f. let less = ltb-true c.hi (2 ^ 32) f in lt-ltb a.hi (2 ^ 32) (omega arith)) (λ f. p) (λ f. let less = ltb-true a.hi (2 ^ 32) f in record { low = omega arith; some = p.some; high = omega arith }) (omega arith))

  cases : (s : Bool) → is_single a ≡ s → IsWithin (cond s (single (a.lo % 2 ^ 32)) (cond (ltb a.hi (2 ^ 32)) a (full W32))) (truncate c)
  cases true e = one_within (a.lo % 2 ^ 32) (truncate c) (truncate_in c a.lo (low_in a c p))
  cases false e = wide (false_from_ne_true (is_single c) (λ f. let one = sym (single_within a c p f) ∙ e in cc))

truncate_below : (a : Range) → (truncate a).hi < 2 ^ 32
truncate_below a = cases (is_single a) (ltb a.hi (2 ^ 32)) refl where
  cases : (p q : Bool) → ltb a.hi (2 ^ 32) ≡ q → (cond p (single (a.lo % 2 ^ 32)) (cond q a (full W32))).hi < 2 ^ 32
  cases true q e = omega arith
  cases false true e = ltb-true a.hi (2 ^ 32) e
  cases false false e = omega arith

-- what an instruction makes of narrower ranges is narrower
pub transfer_within : (width : AluWidth) (op : AluOp) (a b c d : Range) → IsWithin a c → IsWithin b d → IsRange c → IsRange d → IsWithin (transfer width op a b) (transfer width op c d)
transfer_within W32 op a b c d p q fc fd =
    transfer_of_within W32 op (truncate a) (truncate b) (truncate c) (truncate d) (truncate_within a c p) (truncate_within b d q) (truncate_below c) (truncate_below d)
transfer_within W64 op a b c d p q fc fd = transfer_of_within W64 op a b c d p q fc.below fd.below

-- ---- byte swaps

pub swap_within : (kind : SwapKind) (width : Width) (a c : Range) → IsWithin a c → IsWithin (swap_range_of kind width a) (swap_range_of kind width c)
swap_within kind width a c p = cases (is_single a) refl where
  not_single : is_single a ≡ false → is_single c ≡ false
  not_single e = false_from_ne_true (is_single c) (λ f. let one = sym (single_within a c p f) ∙ e in cc)

  any : IsWithin (range 0 (2 ^ swap_bits width - 1)) (range 0 (2 ^ swap_bits width - 1))
  any = within_self (range 0 (2 ^ swap_bits width - 1)) (omega arith)

  wide : (k : SwapKind) → is_single a ≡ false → IsWithin (swap_range_of k width a) (swap_range_of k width c)
  wide Le e =
      rw (e, not_single e) (cond_within (ltb a.hi (2 ^ swap_bits width)) (ltb c.hi (2 ^ swap_bits width)) a c (range 0 (2 ^ swap_bits width - 1)) (λ f. let less = ltb-true c.hi (2 ^ swap_bits width) f in lt-ltb a.hi (2 ^ swap_bits width) (omega (arith, less))) (λ f. p) (λ f. let less = ltb-true a.hi (2 ^ swap_bits width) f in record { low = omega arith; some = p.some; high = omega (arith, less) }) (omega arith))
  wide Be e = rw (e, not_single e) any
  wide Swap e = rw (e, not_single e) any

  cases : (s : Bool) → is_single a ≡ s → IsWithin (swap_range_of kind width a) (swap_range_of kind width c)
  cases true e =
      rw e (one_within (byte_swap_of kind width a.lo) (swap_range_of kind width c) (swap_in kind width c a.lo (low_in a c p)))
  cases false e = wide kind e
