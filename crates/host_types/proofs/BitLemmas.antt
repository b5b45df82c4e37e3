-- The numbers that bits stand for, and what one bit more does.
use Rattle.std.proofs.Common.{◌≡◌, ◌≢◌, ◌⊎◌, ℕ, zero, suc, ◌+◌, ◌*◌, ◌/◌, ◌%◌, ◌^◌, ◌<◌, ◌≤◌, Bool, true, false, cond, ◌||◌, eqb, List, [], ◌∷◌, length, get_or, set, refl, sym, ap, ◌∙◌, arith, inl, inr, add-one}
use Rattle.std.specs.Prelude.{bit_or}
use Rattle.std.specs.Int.{bit_at, w64}
use Rattle.std.specs.Ordering.{nat_cmp}
use Rattle.std.specs.Cmp.{nat_cmp_total, unsigned_tied}
use Rattle.std.specs.FinSet as finite
use Rattle.std.proofs.lemmas.Bool.{eq-eqb, ne_eqb, cases_eq, cases_lt}
use Rattle.std.proofs.lemmas.List.{get_or-set_same, get_or-set_other}
use Rattle.std.proofs.lemmas.Nat.Bits.{bit_at-zero, bit_at_set_same, bit_at_set_other}
use Rattle.host_types.specs.Bits.{has_bit, bits_below}

contains-cond : (b : Bool) (s : finite.FinSet nat_cmp) (n q : ℕ) → finite.contains (cond b (finite.insert s n) s) q ≡ cond (eqb q n) (b || finite.contains s q) (finite.contains s q)
contains-cond true s n q = finite.contains-insert nat_cmp_total s n q ∙ ap (λ (e : Bool). e || finite.contains s q) (unsigned_tied q n) ∙ or_cond (eqb q n) (finite.contains s q) where
  or_cond : (e c : Bool) → (e || c) ≡ cond e true c
  or_cond true c = refl
  or_cond false c = refl
contains-cond false s n q = same (eqb q n) (finite.contains s q) where
  same : (e c : Bool) → c ≡ cond e c c
  same true c = refl
  same false c = refl

pub none_above : (words : List ℕ) (n q : ℕ) → n ≤ q → finite.contains (bits_below words n) q ≡ false
unfolding bits_below
none_above words zero q h = finite.contains-empty nat_cmp q
none_above words (suc n) q h =
    let apart : eqb q n ≡ false = ne_eqb q n (λ e. omega arith) in
    contains-cond (has_bit words n) (bits_below words n) n q
    ∙ ap (λ (e : Bool). cond e (has_bit words n || finite.contains (bits_below words n) q) (finite.contains (bits_below words n) q)) apart
    ∙ none_above words n q (omega arith)

pub contains_bit : (words : List ℕ) (n q : ℕ) → q < n → finite.contains (bits_below words n) q ≡ has_bit words q
unfolding bits_below
contains_bit words zero q h = absurd (omega arith)
contains_bit words (suc n) q h =
    contains-cond (has_bit words n) (bits_below words n) n q
    ∙ cases (cases_eq q n) (λ (lt : q < n). contains_bit words n q lt) where
      or_left : (b c : Bool) → c ≡ false → (b || c) ≡ b
      or_left true c e = refl
      or_left false c e = e

      cases : (q ≡ n) ⊎ (q ≢ n) → (q < n → finite.contains (bits_below words n) q ≡ has_bit words q) → cond (eqb q n) (has_bit words n || finite.contains (bits_below words n) q) (finite.contains (bits_below words n) q) ≡ has_bit words q
      cases (inl e) below =
          ap (λ (t : Bool). cond t (has_bit words n || finite.contains (bits_below words n) q) (finite.contains (bits_below words n) q)) (eq-eqb q n e)
          ∙ or_left (has_bit words n) _ (none_above words n q (omega arith))
          ∙ ap (has_bit words) (sym e)
      cases (inr ne) below =
          ap (λ (t : Bool). cond t (has_bit words n || finite.contains (bits_below words n) q) (finite.contains (bits_below words n) q)) (ne_eqb q n ne)
          ∙ below (omega arith)

abbrev zeros : List ℕ
zeros = 0 ∷ 0 ∷ 0 ∷ 0 ∷ []

-- no bit is set in four words of 0
pub no_bit : (q : ℕ) → has_bit zeros q ≡ false
no_bit q = at (q / 64) where
  zero_at : (i : ℕ) → let z : ℕ = 0 in get_or zeros i 0 ≡ z
  zero_at zero = refl
  zero_at (suc zero) = refl
  zero_at (suc (suc zero)) = refl
  zero_at (suc (suc (suc zero))) = refl
  zero_at (suc (suc (suc (suc i)))) = refl

  at : (i : ℕ) → eqb (bit_at (get_or zeros i 0) (q % 64)) 1 ≡ false
  at i = ap (λ (w : ℕ). eqb (bit_at w (q % 64)) 1) (zero_at i) ∙ ap (λ (b : ℕ). eqb b 1) (bit_at-zero (q % 64))

pub empty_of_no_bits : (n : ℕ) → bits_below zeros n ≡ finite.empty {K = ℕ} {R = nat_cmp}
unfolding bits_below
empty_of_no_bits zero = refl
empty_of_no_bits (suc n) =
    ap (λ (b : Bool). cond b (finite.insert (bits_below zeros n) n) (bits_below zeros n)) (no_bit n)
    ∙ empty_of_no_bits n

-- the words with the bit of one number set
abbrev pub with_bit : List ℕ → ℕ → List ℕ
with_bit words id = set words (id / 64) (bit_or (get_or words (id / 64) 0) (1 * 2 ^ (id % 64) % 18446744073709551616))

pub has_bit-with_bit : (words : List ℕ) (id q : ℕ) → length words ≡ 4 → id < 256 → has_bit (with_bit words id) q ≡ (eqb q id || has_bit words q)
has_bit-with_bit words id q long h = word (cases_eq (q / 64) (id / 64)) where
  old : ℕ
  old = get_or words (id / 64) 0

  new : ℕ
  new = bit_or old (1 * 2 ^ (id % 64) % 18446744073709551616)

  other : q ≢ id → has_bit (with_bit words id) q ≡ has_bit words q → has_bit (with_bit words id) q ≡ (eqb q id || has_bit words q)
  other ne e = e ∙ ap (λ (t : Bool). t || has_bit words q) (sym (ne_eqb q id ne))

  bit : q / 64 ≡ id / 64 → (q % 64 ≡ id % 64) ⊎ (q % 64 ≢ id % 64) → has_bit (with_bit words id) q ≡ (eqb q id || has_bit words q)
  bit w (inl b) =
      let here : get_or (with_bit words id) (q / 64) 0 ≡ new = ap (λ (k : ℕ). get_or (with_bit words id) k 0) w ∙ get_or-set_same words (id / 64) new 0 (omega arith) in
      let one : bit_at new (q % 64) ≡ 1 = ap (bit_at new) b ∙ bit_at_set_same w64 old (id % 64) (omega arith) in
      ap (λ (k : ℕ). eqb (bit_at k (q % 64)) 1) here ∙ ap (λ (k : ℕ). eqb k 1) one ∙ ap (λ (t : Bool). t || has_bit words q) (sym (eq-eqb q id (omega arith)))
  bit w (inr b) =
      let here : get_or (with_bit words id) (q / 64) 0 ≡ new = ap (λ (k : ℕ). get_or (with_bit words id) k 0) w ∙ get_or-set_same words (id / 64) new 0 (omega arith) in
      let same : bit_at new (q % 64) ≡ bit_at old (q % 64) = bit_at_set_other w64 old (id % 64) (omega arith) (q % 64) b in
      other (λ e. b (ap (λ (k : ℕ). k % 64) e)) (ap (λ (k : ℕ). eqb (bit_at k (q % 64)) 1) here ∙ ap (λ (k : ℕ). eqb k 1) same ∙ ap (λ (k : ℕ). eqb (bit_at (get_or words k 0) (q % 64)) 1) (sym w))

  word : (q / 64 ≡ id / 64) ⊎ (q / 64 ≢ id / 64) → has_bit (with_bit words id) q ≡ (eqb q id || has_bit words q)
  word (inl w) = bit w (cases_eq (q % 64) (id % 64))
  word (inr w) = other (λ e. w (ap (λ (k : ℕ). k / 64) e)) (ap (λ (k : ℕ). eqb (bit_at k (q % 64)) 1) (get_or-set_other words (id / 64) (q / 64) new 0 w))

-- to mark a number is to insert it
pub bits_below-with_bit : (words : List ℕ) (id : ℕ) → length words ≡ 4 → id < 256 → bits_below (with_bit words id) 256 ≡ finite.insert (bits_below words 256) id
bits_below-with_bit words id long h =
    finite.same_set nat_cmp_total finite.nat_cmp-IsAntisymmetric _ _ (λ (q : ℕ). each q (cases_lt q 256)) where
      inserted : (q : ℕ) → finite.contains (finite.insert (bits_below words 256) id) q ≡ (eqb q id || finite.contains (bits_below words 256) q)
      inserted q = finite.contains-insert nat_cmp_total (bits_below words 256) id q ∙ ap (λ (t : Bool). t || finite.contains (bits_below words 256) q) (unsigned_tied q id)

      each : (q : ℕ) → (q < 256) ⊎ (256 ≤ q) → finite.contains (bits_below (with_bit words id) 256) q ≡ finite.contains (finite.insert (bits_below words 256) id) q
      each q (inl lt) =
          contains_bit (with_bit words id) 256 q lt ∙ has_bit-with_bit words id q long h
          ∙ ap (λ (t : Bool). eqb q id || t) (sym (contains_bit words 256 q lt)) ∙ sym (inserted q)
      each q (inr ge) =
          none_above (with_bit words id) 256 q ge
          ∙ sym (inserted q ∙ ap (λ (t : Bool). t || finite.contains (bits_below words 256) q) (ne_eqb q id (λ e. omega arith)) ∙ none_above words 256 q ge)

-- counting is by the bits
pub len-bits_below : (words : List ℕ) (n : ℕ) → finite.len (bits_below words (n + 1)) ≡ finite.len (bits_below words n) + cond (has_bit words n) 1 0
unfolding bits_below
len-bits_below words n = rw add-one (step (has_bit words n)) where
  step : (b : Bool) → finite.len (cond b (finite.insert (bits_below words n) n) (bits_below words n)) ≡ finite.len (bits_below words n) + cond b 1 0
  step true = finite.len-insert nat_cmp_total (bits_below words n) n ∙ ap (λ (b : Bool). cond b (finite.len (bits_below words n)) (finite.len (bits_below words n) + 1)) (none_above words n n (omega arith))
  step false = omega arith

-- so many of the numbers below n have a bit
pub record CountsBits (words : List ℕ) (n count : ℕ) : Type 0 where
  pub is : count ≡ finite.len (bits_below words n)
  pub few : count ≤ n

pub counted_none : (words : List ℕ) → CountsBits words 0 0
unfolding bits_below
counted_none words = record { is = sym (finite.len-empty nat_cmp); few = omega arith }

pub counts_more : (words : List ℕ) (n count : ℕ) (b : Bool) → CountsBits words n count → b ≡ has_bit words n → CountsBits words (n + 1) (count + cond b 1 0)
counts_more words n count b h e = record {
  is = ap (λ (k : ℕ). k + cond b 1 0) h.is ∙ ap (λ (t : Bool). finite.len (bits_below words n) + cond t 1 0) e ∙ sym (len-bits_below words n);
  few = bound b;
} where
  bound : (t : Bool) → count + cond t 1 0 ≤ n + 1
  bound true = omega (arith, h.few)
  bound false = omega (arith, h.few)
