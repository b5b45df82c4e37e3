-- Masks of those who pass a test.
use Rattle.std.proofs.Common.{◌≡◌, ◌≢◌, ℕ, zero, suc, ◌+◌, ◌*◌, ◌^◌, ◌<◌, ◌≤◌, Bool, true, false, cond, refl, sym, ap, ◌∙◌, arith, ◌⊎◌, inl, inr}
use Rattle.std.specs.Int.{bit_at}
use Rattle.std.specs.Prelude.{bit_or, bit_and, count_ones}
use Rattle.std.specs.Int.Bits.{or_add_and}
use Rattle.std.proofs.lemmas.Bool.{cases_eq, cases_lt}
use Rattle.std.proofs.lemmas.Nat.{ones_cat}
use Rattle.std.proofs.lemmas.Nat.Bits.{and_pow, bit_at-zero, bit_at_cat_low, bit_at_above}
use Rattle.std.proofs.Math.Nat.{two-pow-succ}
use Rattle.pbft_model.specs.Setup.{count}
use Rattle.ballots.specs.Ballots.{mask_of, mask_at}
use Rattle.std.specs.Ordering.{nat_cmp, is_eq}
use Rattle.std.specs.Cmp.Lexicographic.{slice_cmp}
use Rattle.std.specs.BTreeMap as tree
use Rattle.std.specs.Option.{unwrap_or}
use Rattle.std.proofs.lemmas.Map.Text.{is_eq-slice_cmp}
use Rattle.std.specs.Prelude.{List, Option, Some, bytes_eq}

small_step : (b : Bool) (n m : ℕ) → m < 2 ^ n → cond b 1 0 * 2 ^ n + m < 2 ^ suc n
small_step true n m h = omega (arith, two-pow-succ n)
small_step false n m h = omega (arith, two-pow-succ n)

pub mask_small : (test : ℕ → Bool) (n : ℕ) → mask_of test n < 2 ^ n
mask_small test zero = omega arith
mask_small test (suc n) = small_step (test n) n (mask_of test n) (mask_small test n)

-- the bits of a mask are those that pass
ones_step : (b : Bool) → count_ones (cond b 1 0) ≡ cond b 1 0
unfolding lib.Count.ones
ones_step true = refl
ones_step false = refl

ones_zero : count_ones 0 ≡ 0
unfolding lib.Count.ones
ones_zero = refl

pub ones_mask : (test : ℕ → Bool) (n : ℕ) → count_ones (mask_of test n) ≡ count test n
ones_mask test zero = ones_zero
ones_mask test (suc n) =
    let h = ones_cat n (cond (test n) 1 0) (mask_of test n) (mask_small test n) in
    omega (arith, h, ones_step (test n), ones_mask test n)

-- ---- one more who passes

pub same_mask_below : (test other : ℕ → Bool) (n : ℕ) → ((i : ℕ) → i < n → other i ≡ test i) → mask_of other n ≡ mask_of test n
same_mask_below test other zero h = refl
same_mask_below test other (suc n) h =
    ap (λ (b : Bool). cond b 1 0 * 2 ^ n + mask_of other n) (h n (omega arith))
    ∙ ap (λ (m : ℕ). cond (test n) 1 0 * 2 ^ n + m) (same_mask_below test other n (λ i below. h i (omega arith)))

more_step : (test other : ℕ → Bool) (n s : ℕ) → s < suc n → test s ≡ false → other s ≡ true → ((i : ℕ) → i ≢ s → other i ≡ test i) → (s < n → mask_of other n ≡ mask_of test n + 2 ^ s) → (s ≡ n) ⊎ (s ≢ n) → mask_of other (suc n) ≡ mask_of test (suc n) + 2 ^ s
more_step test other n s below fails passes h rest (inl e) =
    let now : test n ≡ false = ap test (sym e) ∙ fails in
    let then : other n ≡ true = ap other (sym e) ∙ passes in
    let same = same_mask_below test other n (λ i lt. h i (λ is. absurd (omega arith))) in
    rw (now, then, same, e) (omega arith)
more_step test other n s below fails passes h rest (inr ne) =
    let same = h n (λ is. ne (sym is)) in
    rw (same, rest (omega arith)) (omega arith)

pub mask_more : (test other : ℕ → Bool) (n s : ℕ) → s < n → test s ≡ false → other s ≡ true → ((i : ℕ) → i ≢ s → other i ≡ test i) → mask_of other n ≡ mask_of test n + 2 ^ s
mask_more test other zero s below fails passes h = absurd (omega arith)
mask_more test other (suc n) s below fails passes h = more_step test other n s below fails passes h (λ lt. mask_more test other n s lt fails passes h) (cases_eq s n)

pub same_mask : (test other : ℕ → Bool) (n : ℕ) → ((i : ℕ) → other i ≡ test i) → mask_of other n ≡ mask_of test n
same_mask test other n h = same_mask_below test other n (λ i below. h i)

-- who fails has no bit
unset_step : (test : ℕ → Bool) (n s : ℕ) → test s ≡ false → bit_at (mask_of test n) s ≡ 0 → (s ≡ n) ⊎ (s ≢ n) → (s < n) ⊎ (n ≤ s) → bit_at (mask_of test (suc n)) s ≡ 0
unset_step test n s fails rest (inl e) l =
    let now : test n ≡ false = ap test (sym e) ∙ fails in
    let flat : mask_of test (suc n) ≡ mask_of test n = rw now (omega arith) in
    ap (λ (m : ℕ). bit_at m s) flat ∙ bit_at_above (mask_of test n) n s (mask_small test n) (omega arith)
unset_step test n s fails rest (inr ne) (inl lt) = bit_at_cat_low (cond (test n) 1 0) n (mask_of test n) s lt ∙ rest
unset_step test n s fails rest (inr ne) (inr le) = bit_at_above (mask_of test (suc n)) (suc n) s (mask_small test (suc n)) (omega arith)

pub bit_unset : (test : ℕ → Bool) (n s : ℕ) → test s ≡ false → bit_at (mask_of test n) s ≡ 0
bit_unset test zero s fails = bit_at-zero s
bit_unset test (suc n) s fails = unset_step test n s fails (bit_unset test n s fails) (cases_eq s n) (cases_lt s n)

pub or_bit : (m k : ℕ) → bit_at m k ≡ 0 → bit_or m (2 ^ k) ≡ m + 2 ^ k
or_bit m k unset =
    let none : bit_and m (2 ^ k) ≡ 0 = and_pow m k ∙ ap (λ (b : ℕ). b * 2 ^ k) unset ∙ omega arith in
    omega (arith, or_add_and m (2 ^ k), none)

-- a mask that was raised, and the others
pub raised : (old new : tree.BTreeMap (List ℕ) ℕ) (digest q : List ℕ) (n m : ℕ) → tree.get (slice_cmp nat_cmp) new q ≡ cond (is_eq (slice_cmp nat_cmp digest q)) (Some n) (tree.get (slice_cmp nat_cmp) old q) → n ≡ m → mask_at new q ≡ cond (bytes_eq digest q) m (mask_at old q)
raised old new digest q n m e is =
    ap (λ (o : Option ℕ). unwrap_or o 0) e ∙ split (is_eq (slice_cmp nat_cmp digest q)) (bytes_eq digest q) (is_eq-slice_cmp digest q) where
      split : (a b : Bool) → a ≡ b → unwrap_or (cond a (Some n) (tree.get (slice_cmp nat_cmp) old q)) 0 ≡ cond b m (mask_at old q)
      split true true e = is
      split true false e = absurd cc
      split false true e = absurd cc
      split false false e = refl
