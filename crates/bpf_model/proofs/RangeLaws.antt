-- What instructions make of ranges holds each result of numbers in them, and numbers of 64 bits alone.
use Rattle.std.proofs.Common.{◌≡◌, ℕ, zero, suc, ◌+◌, ◌-◌, ◌*◌, ◌/◌, ◌%◌, ◌^◌, ◌<◌, ◌≤◌, min, max, Bool, true, false, ◌&&◌, ◌||◌, cond, leb, ltb, eqb, List, get_or, Option, Some, None, refl, sym, subst, arith}
use Rattle.std.specs.Int.{w8, w16, w32, w64, cast_signed, cast_unsigned, from_le_bytes, leading_zeros}
use Rattle.std.specs.Option.{option_map}
use Rattle.std.proofs.Math.Facts.{Fits-of_z, sfits_widen, sfits_to_z, Fits-of_lt}
use Rattle.std.proofs.Math.Nat.{pow-le-pow_right}
use Rattle.std.proofs.lemmas.Bool.{ltb-true, eqb-true}
use Rattle.std.proofs.lemmas.Nat.{div-add-mod', mod_below}
use Rattle.bpf_num.specs.declared.AluOp.{AluOp}
use Rattle.bpf_num.specs.declared.AluOp.TheVariants.{Add, Sub, Mul, Div, Sdiv, Or, And, Lsh, Rsh, Neg, Mod, Smod, Xor, Mov, Movsx8, Movsx16, Movsx32, Arsh}
use Rattle.bpf_num.specs.declared.AluWidth.{AluWidth}
use Rattle.bpf_num.specs.declared.AluWidth.TheVariants.{W32, W64}
use Rattle.bpf_num.specs.declared.swap.SwapKind.{SwapKind}
use Rattle.bpf_num.specs.declared.swap.SwapKind.TheVariants.{Le, Be, Swap}
use Rattle.bpf_num.specs.declared.swap.Width.{Width}
use Rattle.bpf_num.specs.declared.swap.Width.TheVariants as swaps
use Rattle.bpf_num.specs.declared.jump.Test.{Test}
use Rattle.bpf_num.specs.declared.jump.Test.TheVariants.{Jeq, Jgt, Jge, Jset, Jne, Jsgt, Jsge, Jlt, Jle, Jslt, Jsle}
use Rattle.bpf_num.specs.Arithmetic.{bits_of, modulus, result_of, alu_of}
use Rattle.bpf_num.specs.ByteSwap.{byte_swap_of, reversed, swap_bits}
use Rattle.bpf_num.specs.Jump.{jump_test_of}
use Rattle.bpf_decode.specs.declared.insn.Size.{Size}
use Rattle.bpf_decode.specs.declared.insn.Size.TheVariants.{B, H, W, Dw}
use Rattle.reg_ranges.specs.Ranges.{Range, In, range, single, is_single, full, alike, quotient_range, rest_range, all_bits, right_shift_range, is_positive, extended_range, negation_range, wide_range, transfer_of, truncate, swap_range_of}
use Rattle.reg_ranges.specs.Refine.{Ranges, ranges, exchanged, without, equal_edge, unequal_edge, greater_edge, greater_or_equal_edge, signed_edge, is_zero, taken_edge, refuted_edge, wide_edge, edge_of, same, refine_of}
use Rattle.reg_ranges.proofs.Sound.{one_of, wide_in_32, wide_in_64, transfer_in_32, transfer_in_64, truncate_in, modulus_small}
use Rattle.bpf_model.specs.Access.{bytes_of, word_of, loaded}
use Rattle.bpf_model.specs.AbstractState.{transfer, loaded_range}
use Rattle.bpf_model.proofs.Options.{and_true}

-- a range of numbers of 64 bits
pub record IsRange (r : Range) : Type 0 where
  pub below : r.hi < 2 ^ 64

-- ---- arithmetic

modulus_some : (width : AluWidth) → 0 < modulus width
modulus_some W32 = omega arith
modulus_some W64 = omega arith

two-le : (i j : ℕ) → i ≤ j → 2 ^ i ≤ 2 ^ j
two-le i j h = pow-le-pow_right {n = 2} (omega arith) {i = i} {j = j} h

bits_below : (x y : ℕ) → all_bits x y < 2 ^ 64
bits_below x y =
    let less : 2 ^ (64 - leading_zeros w64 (max x y)) ≤ 2 ^ 64 = two-le (64 - leading_zeros w64 (max x y)) 64 (omega arith) in omega arith

top_64 : (op : AluOp) → (wide_range W64 op (full W64) (full W64)).hi < 2 ^ 64
top_64 Or = bits_below (2 ^ 64 - 1) (2 ^ 64 - 1)
top_64 Xor = bits_below (2 ^ 64 - 1) (2 ^ 64 - 1)
top_64 _ = omega arith

top_32 : (op : AluOp) → (wide_range W32 op (full W32) (full W32)).hi < 2 ^ 64
top_32 Or = bits_below (2 ^ 32 - 1) (2 ^ 32 - 1)
top_32 Xor = bits_below (2 ^ 32 - 1) (2 ^ 32 - 1)
top_32 _ = omega arith

-- a result is a number of the width
result_below : (width : AluWidth) (op : AluOp) (x y : ℕ) → x < modulus width → y < modulus width → result_of width op x y < 2 ^ 64
result_below W64 op x y hx hy =
    let i = wide_in_64 op (full W64) (full W64) x y (omega arith) (omega arith) (record { low = omega arith; high = omega arith }) (record { low = omega arith; high = omega arith }) in
    let high = i.high in let top = top_64 op in omega arith
result_below W32 op x y hx hy =
    let i = wide_in_32 op (full W32) (full W32) x y (omega arith) (omega arith) (record { low = omega arith; high = omega arith }) (record { low = omega arith; high = omega arith }) in
    let high = i.high in let top = top_32 op in omega arith

full_below : (width : AluWidth) → (full width).hi < 2 ^ 64
full_below W32 = omega arith
full_below W64 = omega arith

choice : (p : Bool) (a b : Range) → a.hi < 2 ^ 64 → b.hi < 2 ^ 64 → (cond p a b).hi < 2 ^ 64
choice true a b ha hb = ha
choice false a b ha hb = hb

-- as `choice`, where the first is needed only if the test holds
chosen : (p : Bool) (a b : Range) → (p ≡ true → a.hi < 2 ^ 64) → b.hi < 2 ^ 64 → (cond p a b).hi < 2 ^ 64
chosen true a b ha hb = ha refl
chosen false a b ha hb = hb

rest_below : (width : AluWidth) (x : ℕ) → x % modulus width < 2 ^ 64
rest_below width x =
    let small = modulus_small width in
    let less = mod_below x (modulus width) (modulus_some width) in omega arith

quotient_le : (x y : ℕ) → x / y ≤ x
quotient_le x zero = let whole = div-add-mod' x 0 in omega arith
quotient_le x (suc y) = omega (arith, div_le x (suc y) (omega arith)) where
  div_le : (x y : ℕ) → 0 < y → x / y ≤ x
  div_le x y some = let whole = div-add-mod' x y in let less = spread (x / y) y some in omega arith where
    spread : (q y : ℕ) → 0 < y → q ≤ y * q
    spread q zero h = absurd (omega arith)
    spread q (suc k) h = omega arith

quotient_below : (a b : Range) → a.hi < 2 ^ 64 → (quotient_range a b).hi < 2 ^ 64
quotient_below a b ha = let less = quotient_le a.hi b.lo in choice (ltb 0 b.lo) (range (a.lo / b.hi) (a.hi / b.lo)) (range 0 a.hi) (omega arith) ha

rest_range_below : (a b : Range) → a.hi < 2 ^ 64 → (rest_range a b).hi < 2 ^ 64
rest_range_below a b ha =
    choice (ltb 0 b.lo) (cond (ltb a.hi b.lo) a (range 0 (min a.hi (b.hi - 1)))) (range 0 a.hi) (choice (ltb a.hi b.lo) a (range 0 (min a.hi (b.hi - 1))) ha (omega arith)) ha

right_shift_below : (width : AluWidth) (a b : Range) → a.hi < 2 ^ 64 → (right_shift_range width a b).hi < 2 ^ 64
right_shift_below width a b ha =
    let less = quotient_le a.hi (2 ^ (b.lo % bits_of width)) in
    choice (is_single b) (range (a.lo / 2 ^ (b.lo % bits_of width)) (a.hi / 2 ^ (b.lo % bits_of width))) (range 0 a.hi) (omega arith) ha

single_lo : (r : Range) (m : ℕ) → is_single r ≡ true → r.hi < m → r.lo < m
single_lo r m e h = let is = eqb-true r.lo r.hi e in omega arith

extended_below : (width : AluWidth) (op : AluOp) (bits : ℕ) (b : Range) → b.hi < modulus width → (extended_range width op bits b).hi < 2 ^ 64
extended_below width op bits b hb =
    let small = modulus_small width in
    chosen (is_single b) (single (result_of width op 0 b.lo)) (cond (ltb b.hi (2 ^ (bits - 1))) b (full width)) (λ e. result_below width op 0 b.lo (modulus_some width) (single_lo b (modulus width) e hb)) (choice (ltb b.hi (2 ^ (bits - 1))) b (full width) (omega arith) (full_below width))

negation_below : (width : AluWidth) (a : Range) → a.hi < modulus width → (negation_range width a).hi < 2 ^ 64
negation_below width a ha =
    let small = modulus_small width in
    let some = modulus_some width in
    chosen (is_single a) (single (result_of width Neg a.lo 0)) (cond (ltb 0 a.lo) (range (modulus width - a.hi) (modulus width - a.lo)) (full width)) (λ e. result_below width Neg a.lo 0 (single_lo a (modulus width) e ha) some) (chosen (ltb 0 a.lo) (range (modulus width - a.hi) (modulus width - a.lo)) (full width) (λ e. let low = ltb-true 0 a.lo e in omega arith) (full_below width))

wide_below : (width : AluWidth) (op : AluOp) (a b : Range) → a.hi < modulus width → b.hi < modulus width → (wide_range width op a b).hi < 2 ^ 64
wide_below width Add a b ha hb =
    choice (alike (leb (modulus width) (a.lo + b.lo)) (leb (modulus width) (a.hi + b.hi))) (range ((a.lo + b.lo) % modulus width) ((a.hi + b.hi) % modulus width)) (full width) (rest_below width (a.hi + b.hi)) (full_below width)
wide_below width Sub a b ha hb =
    choice (alike (ltb a.lo b.hi) (ltb a.hi b.lo)) (range ((a.lo + (modulus width - b.hi)) % modulus width) ((a.hi + (modulus width - b.lo)) % modulus width)) (full width) (rest_below width (a.hi + (modulus width - b.lo))) (full_below width)
wide_below width Mul a b ha hb =
    let small = modulus_small width in
    chosen (ltb (a.hi * b.hi) (modulus width)) (range (a.lo * b.lo) (a.hi * b.hi)) (full width) (λ e. let less = ltb-true (a.hi * b.hi) (modulus width) e in omega arith) (full_below width)
wide_below width Div a b ha hb = let small = modulus_small width in quotient_below a b (omega arith)
wide_below width Sdiv a b ha hb =
    let small = modulus_small width in
    choice (is_positive width a && is_positive width b) (quotient_range a b) (full width) (quotient_below a b (omega arith)) (full_below width)
wide_below width Or a b ha hb = bits_below a.hi b.hi
wide_below width And a b ha hb = let small = modulus_small width in omega arith
wide_below width Lsh a b ha hb =
    let small = modulus_small width in
    chosen (is_single b && ltb (a.hi * 2 ^ (b.lo % bits_of width)) (modulus width)) (range (a.lo * 2 ^ (b.lo % bits_of width)) (a.hi * 2 ^ (b.lo % bits_of width))) (full width) (λ e. let less = ltb-true _ _ (and_true (is_single b) (ltb (a.hi * 2 ^ (b.lo % bits_of width)) (modulus width)) e).1 in omega arith) (full_below width)
wide_below width Rsh a b ha hb = let small = modulus_small width in right_shift_below width a b (omega arith)
wide_below width Neg a b ha hb = negation_below width a ha
wide_below width Mod a b ha hb = let small = modulus_small width in rest_range_below a b (omega arith)
wide_below width Smod a b ha hb =
    let small = modulus_small width in
    choice (is_positive width a && is_positive width b) (rest_range a b) (full width) (rest_range_below a b (omega arith)) (full_below width)
wide_below width Xor a b ha hb = bits_below a.hi b.hi
wide_below width Mov a b ha hb = let small = modulus_small width in omega arith
wide_below width Movsx8 a b ha hb = extended_below width Movsx8 8 b hb
wide_below width Movsx16 a b ha hb = extended_below width Movsx16 16 b hb
wide_below width Movsx32 a b ha hb = extended_below width Movsx32 32 b hb
wide_below width Arsh a b ha hb =
    let small = modulus_small width in
    choice (is_positive width a) (right_shift_range width a b) (full width) (right_shift_below width a b (omega arith)) (full_below width)

transfer_of_below : (width : AluWidth) (op : AluOp) (a b : Range) → a.hi < modulus width → b.hi < modulus width → (transfer_of width op a b).hi < 2 ^ 64
transfer_of_below width op a b ha hb =
    chosen (is_single a && is_single b) (single (result_of width op a.lo b.lo)) (wide_range width op a b) (λ e. let both = and_true (is_single a) (is_single b) e in result_below width op a.lo b.lo (single_lo a (modulus width) both.0 ha) (single_lo b (modulus width) both.1 hb)) (wide_below width op a b ha hb)

truncate_below : (a : Range) → (truncate a).hi < 2 ^ 32
truncate_below a = cases (is_single a) (ltb a.hi (2 ^ 32)) refl where
  cases : (p q : Bool) → ltb a.hi (2 ^ 32) ≡ q → (cond p (single (a.lo % 2 ^ 32)) (cond q a (full W32))).hi < 2 ^ 32
  cases true q e = omega arith
  cases false true e = ltb-true _ _ e
  cases false false e = omega arith

-- the result of an instruction lies in its range
pub transfer_in : (width : AluWidth) (op : AluOp) (a b : Range) (x y : ℕ) → IsRange a → IsRange b → In x a → In y b → In (alu_of width op x y) (transfer width op a b)
transfer_in W32 op a b x y fa fb ix iy =
    transfer_in_32 op (truncate a) (truncate b) (x % 2 ^ 32) (y % 2 ^ 32) (truncate_below a) (truncate_below b) (truncate_in a x ix) (truncate_in b y iy)
transfer_in W64 op a b x y fa fb ix iy = transfer_in_64 op a b x y fa.below fb.below ix iy

pub IsRange-transfer : (width : AluWidth) (op : AluOp) (a b : Range) → IsRange a → IsRange b → IsRange (transfer width op a b)
IsRange-transfer W32 op a b fa fb =
    record { below = transfer_of_below W32 op (truncate a) (truncate b) (truncate_below a) (truncate_below b) }
IsRange-transfer W64 op a b fa fb = record { below = transfer_of_below W64 op a b fa.below fb.below }

-- ---- byte swaps

reversed_below : (width : Width) (n : ℕ) → reversed width n ≤ 2 ^ swap_bits width - 1
reversed_below swaps.W16 n = omega arith
reversed_below swaps.W32 n = omega arith
reversed_below swaps.W64 n = omega arith

cut_below : (width : Width) (n : ℕ) → n % 2 ^ swap_bits width ≤ 2 ^ swap_bits width - 1
cut_below swaps.W16 n = omega arith
cut_below swaps.W32 n = omega arith
cut_below swaps.W64 n = omega arith

cut_same : (width : Width) (n m : ℕ) → n ≤ m → m < 2 ^ swap_bits width → n % 2 ^ swap_bits width ≡ n
cut_same swaps.W16 n m h l = omega arith
cut_same swaps.W32 n m h l = omega arith
cut_same swaps.W64 n m h l = omega arith

swap_wide : (kind : SwapKind) (width : Width) (a : Range) (x : ℕ) → is_single a ≡ false → In x a → In (byte_swap_of kind width x) (swap_range_of kind width a)
swap_wide Le width a x e ix = cases (is_single a) (ltb a.hi (2 ^ swap_bits width)) e refl where
  cases : (p q : Bool) → p ≡ false → ltb a.hi (2 ^ swap_bits width) ≡ q → In (x % 2 ^ swap_bits width) (cond p (single (a.lo % 2 ^ swap_bits width)) (cond q a (range 0 (2 ^ swap_bits width - 1))))
  cases true q n f = absurd cc
  cases false true n f =
      let less = ltb-true _ _ f in let low = ix.low in let high = ix.high in
      let is = cut_same width x a.hi high less in record { low = omega arith; high = omega arith }
  cases false false n f = record { low = omega arith; high = cut_below width x }
swap_wide Be width a x e ix =
    subst (λ (p : Bool). In (reversed width (x % 2 ^ swap_bits width)) (cond p (single (reversed width (a.lo % 2 ^ swap_bits width))) (range 0 (2 ^ swap_bits width - 1)))) (sym e) (record { low = omega arith; high = reversed_below width (x % 2 ^ swap_bits width) })
swap_wide Swap width a x e ix =
    subst (λ (p : Bool). In (reversed width (x % 2 ^ swap_bits width)) (cond p (single (reversed width (a.lo % 2 ^ swap_bits width))) (range 0 (2 ^ swap_bits width - 1)))) (sym e) (record { low = omega arith; high = reversed_below width (x % 2 ^ swap_bits width) })

swap_one : (kind : SwapKind) (width : Width) (a : Range) (x : ℕ) → is_single a ≡ true → In x a → In (byte_swap_of kind width x) (swap_range_of kind width a)
swap_one Le width a x e ix =
    let is = one_of a x e ix in
    subst (λ (p : Bool). In (byte_swap_of Le width x) (cond p (single (byte_swap_of Le width a.lo)) (cond (ltb a.hi (2 ^ swap_bits width)) a (range 0 (2 ^ swap_bits width - 1))))) (sym e) (subst (λ (v : ℕ). In (byte_swap_of Le width v) (single (byte_swap_of Le width a.lo))) (sym is) (record { low = omega arith; high = omega arith }))
swap_one Be width a x e ix =
    let is = one_of a x e ix in
    subst (λ (p : Bool). In (byte_swap_of Be width x) (cond p (single (byte_swap_of Be width a.lo)) (range 0 (2 ^ swap_bits width - 1)))) (sym e) (subst (λ (v : ℕ). In (byte_swap_of Be width v) (single (byte_swap_of Be width a.lo))) (sym is) (record { low = omega arith; high = omega arith }))
swap_one Swap width a x e ix =
    let is = one_of a x e ix in
    subst (λ (p : Bool). In (byte_swap_of Swap width x) (cond p (single (byte_swap_of Swap width a.lo)) (range 0 (2 ^ swap_bits width - 1)))) (sym e) (subst (λ (v : ℕ). In (byte_swap_of Swap width v) (single (byte_swap_of Swap width a.lo))) (sym is) (record { low = omega arith; high = omega arith }))

pub swap_in : (kind : SwapKind) (width : Width) (a : Range) (x : ℕ) → In x a → In (byte_swap_of kind width x) (swap_range_of kind width a)
swap_in kind width a x ix = cases (is_single a) refl where
  cases : (p : Bool) → is_single a ≡ p → In (byte_swap_of kind width x) (swap_range_of kind width a)
  cases true e = swap_one kind width a x e ix
  cases false e = swap_wide kind width a x e ix

width_below : (width : Width) → 2 ^ swap_bits width - 1 < 2 ^ 64
width_below swaps.W16 = omega arith
width_below swaps.W32 = omega arith
width_below swaps.W64 = omega arith

swap_below : (kind : SwapKind) (width : Width) (a : Range) → IsRange a → (swap_range_of kind width a).hi < 2 ^ 64
swap_below Le width a f =
    let top = width_below width in
    let one = cut_below width a.lo in
    choice (is_single a) (single (byte_swap_of Le width a.lo)) (cond (ltb a.hi (2 ^ swap_bits width)) a (range 0 (2 ^ swap_bits width - 1))) (omega arith) (choice (ltb a.hi (2 ^ swap_bits width)) a (range 0 (2 ^ swap_bits width - 1)) f.below top)
swap_below Be width a f =
    let top = width_below width in
    let one = reversed_below width (a.lo % 2 ^ swap_bits width) in
    choice (is_single a) (single (byte_swap_of Be width a.lo)) (range 0 (2 ^ swap_bits width - 1)) (omega arith) top
swap_below Swap width a f =
    let top = width_below width in
    let one = reversed_below width (a.lo % 2 ^ swap_bits width) in
    choice (is_single a) (single (byte_swap_of Swap width a.lo)) (range 0 (2 ^ swap_bits width - 1)) (omega arith) top

pub IsRange-swap : (kind : SwapKind) (width : Width) (a : Range) → IsRange a → IsRange (swap_range_of kind width a)
IsRange-swap kind width a f = record { below = swap_below kind width a f }

-- ---- loads

read_below : (size : Size) (bytes : List ℕ) → ((i : ℕ) → get_or bytes i 0 < 256) → from_le_bytes (word_of size) bytes ≤ 2 ^ (8 * bytes_of size) - 1
read_below B bytes small = let b0 = small 0 in omega arith
read_below H bytes small = let b0 = small 0 in let b1 = small 1 in omega arith
read_below W bytes small = let b0 = small 0 in let b1 = small 1 in let b2 = small 2 in let b3 = small 3 in omega arith
read_below Dw bytes small =
    let b0 = small 0 in let b1 = small 1 in let b2 = small 2 in let b3 = small 3 in
    let b4 = small 4 in let b5 = small 5 in let b6 = small 6 in let b7 = small 7 in
    omega arith

extended_value : (size : Size) (n : ℕ) → n ≤ 2 ^ (8 * bytes_of size) - 1 → cast_unsigned w64 (cast_signed (word_of size) n) < 2 ^ 64
extended_value B n h = let fits = Fits-of_z {w = w64} (sfits_widen {w = w8} {w' = w64} tt (sfits_to_z {w = w8} {n = n} (Fits-of_lt (omega arith)))) in omega arith
extended_value H n h = let fits = Fits-of_z {w = w64} (sfits_widen {w = w16} {w' = w64} tt (sfits_to_z {w = w16} {n = n} (Fits-of_lt (omega arith)))) in omega arith
extended_value W n h = let fits = Fits-of_z {w = w64} (sfits_widen {w = w32} {w' = w64} tt (sfits_to_z {w = w32} {n = n} (Fits-of_lt (omega arith)))) in omega arith
extended_value Dw n h = let fits = Fits-of_z {w = w64} (sfits_to_z {w = w64} {n = n} (Fits-of_lt (omega arith))) in omega arith

pub loaded_in : (size : Size) (signed : Bool) (bytes : List ℕ) → ((i : ℕ) → get_or bytes i 0 < 256) → In (loaded size signed bytes) (loaded_range size signed)
loaded_in size false bytes small = record { low = omega arith; high = read_below size bytes small }
loaded_in size true bytes small =
    let below = extended_value size (from_le_bytes (word_of size) bytes) (read_below size bytes small) in
    record { low = omega arith; high = omega arith }

pub IsRange-loaded : (size : Size) (signed : Bool) → IsRange (loaded_range size signed)
IsRange-loaded B false = record { below = omega arith }
IsRange-loaded H false = record { below = omega arith }
IsRange-loaded W false = record { below = omega arith }
IsRange-loaded Dw false = record { below = omega arith }
IsRange-loaded size true = record { below = omega arith }

-- ---- tests

-- ranges that end no later
abbrev Ends : ℕ → ℕ → Option Ranges → Type 0
Ends m n None = Unit {0}
Ends m n (Some r) = (r.a.hi ≤ m) × (r.b.hi ≤ n)

ends_cond : (p : Bool) (m n : ℕ) (x y : Option Ranges) → Ends m n x → Ends m n y → Ends m n (cond p x y)
ends_cond true m n x y ex ey = ex
ends_cond false m n x y ex ey = ey

ends_exchanged : (m n : ℕ) (x : Option Ranges) → Ends m n x → Ends n m (option_map exchanged x)
ends_exchanged m n None e = tt
ends_exchanged m n (Some r) e = (e.1, e.0)

without_ends : (r : Range) (x : ℕ) → (without r x).hi ≤ r.hi
without_ends r x = cases (eqb r.lo x) (eqb r.hi x) where
  cases : (p q : Bool) → (cond p (range (r.lo + 1) r.hi) (cond q (range r.lo (r.hi - 1)) r)).hi ≤ r.hi
  cases true q = omega arith
  cases false true = omega arith
  cases false false = omega arith

without_if : (p : Bool) (r : Range) (x : ℕ) → (cond p (without r x) r).hi ≤ r.hi
without_if true r x = without_ends r x
without_if false r x = omega arith

equal_ends : (a b : Range) → Ends a.hi b.hi (equal_edge a b)
equal_ends a b = cases (leb (max a.lo b.lo) (min a.hi b.hi)) where
  cases : (p : Bool) → Ends a.hi b.hi (cond p (Some (ranges (range (max a.lo b.lo) (min a.hi b.hi)) (range (max a.lo b.lo) (min a.hi b.hi)))) None)
  cases true = (omega arith, omega arith)
  cases false = tt

unequal_ends : (a b : Range) → Ends a.hi b.hi (unequal_edge a b)
unequal_ends a b = (without_if (is_single b) a b.lo, without_if (is_single a) b a.lo)

greater_ends : (a b : Range) → Ends a.hi b.hi (greater_edge a b)
greater_ends a b = cases (leb a.hi b.lo) where
  cases : (p : Bool) → Ends a.hi b.hi (cond p None (Some (ranges (range (max a.lo (b.lo + 1)) a.hi) (range b.lo (min b.hi (a.hi - 1))))))
  cases true = tt
  cases false = (omega arith, omega arith)

greater_or_equal_ends : (a b : Range) → Ends a.hi b.hi (greater_or_equal_edge a b)
greater_or_equal_ends a b = cases (ltb a.hi b.lo) where
  cases : (p : Bool) → Ends a.hi b.hi (cond p None (Some (ranges (range (max a.lo b.lo) a.hi) (range b.lo (min b.hi a.hi)))))
  cases true = tt
  cases false = (omega arith, omega arith)

same_ends : (a b : Range) → Ends a.hi b.hi (Some (ranges a b))
same_ends a b = (omega arith, omega arith)

signed_ends : (width : AluWidth) (a b : Range) (edge : Option Ranges) → Ends a.hi b.hi edge → Ends a.hi b.hi (signed_edge width a b edge)
signed_ends width a b edge e =
    ends_cond (is_positive width a && is_positive width b) a.hi b.hi edge (Some (ranges a b)) e (same_ends a b)

less_ends : (a b : Range) → Ends a.hi b.hi (option_map exchanged (greater_edge b a))
less_ends a b = ends_exchanged b.hi a.hi (greater_edge b a) (greater_ends b a)

less_or_equal_ends : (a b : Range) → Ends a.hi b.hi (option_map exchanged (greater_or_equal_edge b a))
less_or_equal_ends a b = ends_exchanged b.hi a.hi (greater_or_equal_edge b a) (greater_or_equal_ends b a)

taken_ends : (width : AluWidth) (test : Test) (a b : Range) → Ends a.hi b.hi (taken_edge width test a b)
taken_ends width Jeq a b = equal_ends a b
taken_ends width Jne a b = unequal_ends a b
taken_ends width Jgt a b = greater_ends a b
taken_ends width Jge a b = greater_or_equal_ends a b
taken_ends width Jlt a b = less_ends a b
taken_ends width Jle a b = less_or_equal_ends a b
taken_ends width Jset a b = cases (is_zero a || is_zero b) where
  cases : (p : Bool) → Ends a.hi b.hi (cond p None (Some (ranges a b)))
  cases true = tt
  cases false = same_ends a b
taken_ends width Jsgt a b = signed_ends width a b (greater_edge a b) (greater_ends a b)
taken_ends width Jsge a b = signed_ends width a b (greater_or_equal_edge a b) (greater_or_equal_ends a b)
taken_ends width Jslt a b = signed_ends width a b (option_map exchanged (greater_edge b a)) (less_ends a b)
taken_ends width Jsle a b = signed_ends width a b (option_map exchanged (greater_or_equal_edge b a)) (less_or_equal_ends a b)

refuted_ends : (width : AluWidth) (test : Test) (a b : Range) → Ends a.hi b.hi (refuted_edge width test a b)
refuted_ends width Jeq a b = unequal_ends a b
refuted_ends width Jne a b = equal_ends a b
refuted_ends width Jgt a b = less_or_equal_ends a b
refuted_ends width Jge a b = less_ends a b
refuted_ends width Jlt a b = greater_or_equal_ends a b
refuted_ends width Jle a b = greater_ends a b
refuted_ends width Jset a b = same_ends a b
refuted_ends width Jsgt a b = taken_ends width Jsle a b
refuted_ends width Jsge a b = taken_ends width Jslt a b
refuted_ends width Jslt a b = taken_ends width Jsge a b
refuted_ends width Jsle a b = taken_ends width Jsgt a b

wide_ends : (width : AluWidth) (test : Test) (a b : Range) (taken : Bool) → Ends a.hi b.hi (wide_edge width test a b taken)
wide_ends width test a b true = taken_ends width test a b
wide_ends width test a b false = refuted_ends width test a b

edge_ends : (test : Test) (narrow : Bool) (a b : Range) (taken : Bool) → Ends a.hi b.hi (edge_of test narrow a b taken)
edge_ends test true a b taken =
    ends_cond (ltb a.hi (2 ^ 32) && ltb b.hi (2 ^ 32)) a.hi b.hi (wide_edge W32 test a b taken) (Some (ranges a b)) (wide_ends W32 test a b taken) (same_ends a b)
edge_ends test false a b taken = wide_ends W64 test a b taken

refine_ends : (test : Test) (narrow : Bool) (a b : Range) (taken : Bool) → Ends a.hi b.hi (refine_of test narrow a b taken)
refine_ends test narrow a b taken =
    ends_cond (is_single a && is_single b) a.hi b.hi (cond (same (jump_test_of test narrow a.lo b.lo) taken) (Some (ranges a b)) None) (edge_of test narrow a b taken) (ends_cond (same (jump_test_of test narrow a.lo b.lo) taken) a.hi b.hi (Some (ranges a b)) None (same_ends a b) tt) (edge_ends test narrow a b taken)

-- the new ranges of a test's operands hold numbers of 64 bits alone
pub IsRange-refine : (test : Test) (narrow : Bool) (a b : Range) (taken : Bool) (r : Ranges) → IsRange a → IsRange b → refine_of test narrow a b taken ≡ Some r → IsRange r.a × IsRange r.b
IsRange-refine test narrow a b taken r fa fb e =
    let ends : (r.a.hi ≤ a.hi) × (r.b.hi ≤ b.hi) = subst (Ends a.hi b.hi) e (refine_ends test narrow a b taken) in
    let ha = fa.below in let hb = fb.below in let e0 = ends.0 in let e1 = ends.1 in
    (record { below = omega arith }, record { below = omega arith })
