-- Bytes of the frame as bits of words.
use Rattle.std.proofs.Common.{◌≡◌, ◌≢◌, ℕ, zero, suc, ◌+◌, ◌-◌, ◌*◌, ◌⊎◌, ◌/◌, ◌%◌, ◌^◌, ◌<◌, ◌≤◌, Bool, true, false, ◌&&◌, ◌||◌, not, eqb, leb, ltb, min, max, List, length, replicate, get_or, set, refl, sym, ap, subst, ◌∙◌, arith, inl, inr, bit_and, bit_or}
use Rattle.std.specs.Int.{bit_at}
use Rattle.std.proofs.Math.Nat.{le-max_left, le-max_right}
use Rattle.std.proofs.lemmas.Bool.{eqb-true, eqb-false, le-leb, lt-leb, lt-ltb, le-ltb, cases_lt}
use Rattle.std.proofs.lemmas.Bool.Decides.{eqb_tells}
use Rattle.std.proofs.lemmas.List.{ext_get_or, get_or-set_same, get_or-set_other, get_or_default, length-set}
use Rattle.std.proofs.lemmas.Nat.Bits.{bit_at-zero, bit_at_and, bit_at_or, bit_at-lt, bit_at_above, bit_at_ones, bit_at_ones_above, bit_at_mask_inside, bit_at_mask_below, ones_shl, ones_shr, same_from_bits}
use Rattle.bpf_model.specs.Machine.{frame_start, frame_end, is_in_frame}
use Rattle.bpf_verifier.specs.FrameBytes.{has_byte, AreZeroFrom}

pub not_equal : (a b : ℕ) → a ≢ b → eqb a b ≡ false
not_equal a b h = elim (eqb_tells a b) [ inl (e, same) ↦ absurd (h same) | inr (e, other) ↦ e ]

-- what holds of each pair of bits
each_pair : (P : ℕ → ℕ → Type 0) → P 0 0 → P 0 1 → P 1 0 → P 1 1 → (p q : ℕ) → p < 2 → q < 2 → P p q
each_pair P a b c d zero zero hp hq = a
each_pair P a b c d zero (suc zero) hp hq = b
each_pair P a b c d (suc zero) zero hp hq = c
each_pair P a b c d (suc zero) (suc zero) hp hq = d
each_pair P a b c d (suc (suc p)) q hp hq = absurd (omega (arith, hp))
each_pair P a b c d zero (suc (suc q)) hp hq = absurd (omega (arith, hq))
each_pair P a b c d (suc zero) (suc (suc q)) hp hq = absurd (omega (arith, hq))

-- a bit of both
pub both_bits : (x y k : ℕ) → eqb (bit_at (bit_and x y) k) 1 ≡ (eqb (bit_at x k) 1 && eqb (bit_at y k) 1)
both_bits x y k =
    ap (λ (v : ℕ). eqb v 1) (bit_at_and x y k)
    ∙ each_pair (λ p q. eqb (min p q) 1 ≡ (eqb p 1 && eqb q 1)) refl refl refl refl (bit_at x k) (bit_at y k) (bit_at-lt x k) (bit_at-lt y k)

-- a bit of either
pub either_bit : (x y k : ℕ) → eqb (bit_at (bit_or x y) k) 1 ≡ (eqb (bit_at y k) 1 || eqb (bit_at x k) 1)
either_bit x y k =
    ap (λ (v : ℕ). eqb v 1) (bit_at_or x y k)
    ∙ each_pair (λ p q. eqb (max p q) 1 ≡ (eqb q 1 || eqb p 1)) refl refl refl refl (bit_at x k) (bit_at y k) (bit_at-lt x k) (bit_at-lt y k)

-- the byte of a bit of a word
byte_of : (words : List ℕ) (word k : ℕ) → k < 64 → has_byte words (64 * word + k) ≡ eqb (bit_at (get_or words word 0) k) 1
byte_of words word k small =
    let there : (64 * word + k) / 64 ≡ word = omega (arith, small) in
    let bit : (64 * word + k) % 64 ≡ k = omega (arith, small) in
    ap (λ (n : ℕ). eqb (bit_at (get_or words n 0) ((64 * word + k) % 64)) 1) there ∙ ap (λ (n : ℕ). eqb (bit_at (get_or words word 0) n) 1) bit

-- the bits of a mask of ones: those from low on, those before high
low_ones : (low k : ℕ) → low < 64 → k < 64 → eqb (bit_at ((2 ^ 64 - 1) * 2 ^ low % 2 ^ 64) k) 1 ≡ leb low k
low_ones low k small inside =
    let e : (2 ^ 64 - 1) * 2 ^ low % 2 ^ 64 ≡ 2 ^ 64 - 2 ^ low = ones_shl 64 low (omega (arith, small)) in
    ap (λ (v : ℕ). eqb (bit_at v k) 1) e ∙ elim (cases_lt k low) [
      | inl below ↦ ap (λ (v : ℕ). eqb v 1) (bit_at_mask_below low 64 k below) ∙ sym (lt-leb low k below)
      | inr above ↦ ap (λ (v : ℕ). eqb v 1) (bit_at_mask_inside low 64 k above inside) ∙ sym (le-leb low k above)
    ]

high_ones : (high k : ℕ) → high ≤ 64 → eqb (bit_at ((2 ^ 64 - 1) / 2 ^ (64 - high)) k) 1 ≡ ltb k high
high_ones high k small =
    let back : 64 - (64 - high) ≡ high = omega (arith, small) in
    let e : (2 ^ 64 - 1) / 2 ^ (64 - high) ≡ 2 ^ high - 1 = ones_shr 64 (64 - high) (omega arith) ∙ ap (λ (n : ℕ). 2 ^ n - 1) back in
    ap (λ (v : ℕ). eqb (bit_at v k) 1) e ∙ elim (cases_lt k high) [
      | inl below ↦ ap (λ (v : ℕ). eqb v 1) (bit_at_ones high k below) ∙ sym (lt-ltb k high below)
      | inr above ↦ ap (λ (v : ℕ). eqb v 1) (bit_at_ones_above high k above) ∙ sym (le-ltb k high above)
    ]

-- the mask of the bytes from one on and before another
pub mask_bits : (word from to low high k : ℕ) → low ≡ from - word * 64 → high ≡ min (to - word * 64) 64 → from < 64 * word + 64 → 64 * word < to → k < 64 → eqb (bit_at (bit_and ((2 ^ 64 - 1) * 2 ^ low % 2 ^ 64) ((2 ^ 64 - 1) / 2 ^ (64 - high))) k) 1 ≡ (leb from (64 * word + k) && ltb (64 * word + k) to)
mask_bits word from to low high k low-is high-is behind before inside =
    both_bits ((2 ^ 64 - 1) * 2 ^ low % 2 ^ 64) ((2 ^ 64 - 1) / 2 ^ (64 - high)) k
    ∙ ap (λ (b : Bool). b && eqb (bit_at ((2 ^ 64 - 1) / 2 ^ (64 - high)) k) 1) (low_ones low k (omega (arith, low-is, behind, before)) inside ∙ first)
    ∙ ap (λ (b : Bool). leb from (64 * word + k) && b) (high_ones high k (omega (arith, high-is)) ∙ last) where
      first : leb low k ≡ leb from (64 * word + k)
      first = elim (cases_lt k low) [
        | inl below ↦ lt-leb low k below ∙ sym (lt-leb from (64 * word + k) (omega (arith, low-is, below)))
        | inr above ↦ le-leb low k above ∙ sym (le-leb from (64 * word + k) (omega (arith, low-is, above)))
      ]

      last : ltb k high ≡ ltb (64 * word + k) to
      last = elim (cases_lt k high) [
        | inl below ↦ lt-ltb k high below ∙ sym (lt-ltb (64 * word + k) to (omega (arith, high-is, below)))
        | inr above ↦ le-ltb k high above ∙ sym (le-ltb (64 * word + k) to (omega (arith, high-is, above, inside)))
      ]

-- bytes of one word that are put in
pub inserted : (words : List ℕ) (word mask w : ℕ) → word < length words → w ≡ bit_or (get_or words word 0) mask → (i : ℕ) → has_byte (set words word w) i ≡ ((eqb (i / 64) word && eqb (bit_at mask (i % 64)) 1) || has_byte words i)
inserted words word mask w inside is i =
    elim (eqb_tells (i / 64) word) [
      | inl (e, same) ↦ (
          let there : get_or (set words word w) (i / 64) 0 ≡ bit_or (get_or words word 0) mask = ap (λ (k : ℕ). get_or (set words word w) k 0) same ∙ get_or-set_same words word w 0 inside ∙ is in
          ap (λ (v : ℕ). eqb (bit_at v (i % 64)) 1) there ∙ either_bit (get_or words word 0) mask (i % 64)
          ∙ ap (λ (k : ℕ). eqb (bit_at mask (i % 64)) 1 || eqb (bit_at (get_or words k 0) (i % 64)) 1) (sym same)
          ∙ sym (ap (λ (b : Bool). (b && eqb (bit_at mask (i % 64)) 1) || has_byte words i) e)
          )
      | inr (e, other) ↦
          ap (λ (v : ℕ). eqb (bit_at v (i % 64)) 1) (get_or-set_other words word (i / 64) w 0 other)
          ∙ sym (ap (λ (b : Bool). (b && eqb (bit_at mask (i % 64)) 1) || has_byte words i) e)
    ]

-- the bytes of one more word
pub more_words : (word i : ℕ) (test : ℕ → Bool) (bit o : Bool) → bit ≡ test (64 * word + i % 64) → ((eqb (i / 64) word && bit) || ((test i && ltb i (64 * word)) || o)) ≡ ((test i && ltb i (64 * (word + 1))) || o)
more_words word i test bit o is =
    elim (eqb_tells (i / 64) word) [
      | inl (e, same) ↦ (
          let here : 64 * word + i % 64 ≡ i = omega (arith, same) in
          let past : ltb i (64 * word) ≡ false = le-ltb i (64 * word) (omega (arith, same)) in
          let within : ltb i (64 * (word + 1)) ≡ true = lt-ltb i (64 * (word + 1)) (omega (arith, same)) in
          ap (λ (b : Bool). (b && bit) || ((test i && ltb i (64 * word)) || o)) e
          ∙ ap (λ (b : Bool). b || ((test i && ltb i (64 * word)) || o)) (is ∙ ap test here)
          ∙ ap (λ (b : Bool). test i || ((test i && b) || o)) past
          ∙ once (test i) o
          ∙ ap (λ (b : Bool). (test i && b) || o) (sym within)
          )
      | inr (e, other) ↦ ap (λ (b : Bool). (b && bit) || ((test i && ltb i (64 * word)) || o)) e ∙ ap (λ (b : Bool). (test i && b) || o) (unmoved other)
    ] where
      once : (t p : Bool) → (t || ((t && false) || p)) ≡ ((t && true) || p)
      once true p = refl
      once false p = refl

      next : (a b : ℕ) → b ≤ a → a ≢ b → b < a
      next a b h apart = elim (cases_lt b a) [ inl lt ↦ lt | inr le ↦ absurd (apart (omega (arith, h, le))) ]

      unmoved : i / 64 ≢ word → ltb i (64 * word) ≡ ltb i (64 * (word + 1))
      unmoved other = elim (cases_lt (i / 64) word) [
        | inl below ↦ lt-ltb i (64 * word) (omega (arith, below)) ∙ sym (lt-ltb i (64 * (word + 1)) (omega (arith, below)))
        | inr above ↦ (
            let past : word < i / 64 = next (i / 64) word above other in
            le-ltb i (64 * word) (omega (arith, past)) ∙ sym (le-ltb i (64 * (word + 1)) (omega (arith, past)))
            )
      ]

-- a word that has all bits of a mask, and one that lacks one
pub bits_present : (words : List ℕ) (word mask : ℕ) → eqb (bit_and (get_or words word 0) mask) mask ≡ true → (k : ℕ) → k < 64 → bit_at mask k ≡ 1 → has_byte words (64 * word + k) ≡ true
bits_present words word mask all k small one =
    byte_of words word k small
    ∙ sym (and_one (eqb (bit_at (get_or words word 0) k) 1) (eqb (bit_at mask k) 1) (ap (λ (v : ℕ). eqb v 1) one))
    ∙ sym (both_bits (get_or words word 0) mask k)
    ∙ ap (λ (v : ℕ). eqb (bit_at v k) 1) (eqb-true _ _ all) ∙ ap (λ (v : ℕ). eqb v 1) one where
      and_one : (a b : Bool) → b ≡ true → (a && b) ≡ a
      and_one true b h = h
      and_one false b h = refl

-- of the first n bits of a mask a word has each, or it lacks one
lacking : (word mask n : ℕ) → ((k : ℕ) → k < n → bit_at (bit_and word mask) k ≡ bit_at mask k) ⊎ ((k : ℕ) × (k < n) × (bit_at mask k ≡ 1) × (eqb (bit_at word k) 1 ≡ false))
lacking word mask zero = inl (λ k h. absurd (omega (arith, h)))
lacking word mask (suc n) =
    elim (lacking word mask n) [
      | inl same ↦ elim (one_bit (bit_at word n) (bit_at mask n) (bit_at-lt word n) (bit_at-lt mask n)) [
        | inl e ↦ inl (λ k h. elim (cases_lt k n) [
          | inl lt ↦ same k lt
          | inr le ↦ (
              let last : n ≡ k = omega (arith, h, le) in
              subst (λ (j : ℕ). bit_at (bit_and word mask) j ≡ bit_at mask j) last (bit_at_and word mask n ∙ e)
              )
        ])
        | inr (one, none) ↦ inr (n, omega arith, one, none)
      ]
      | inr (k, small, one, none) ↦ inr (k, omega (arith, small), one, none)
    ] where
      one_bit : (p q : ℕ) → p < 2 → q < 2 → (min p q ≡ q) ⊎ ((q ≡ 1) × (eqb p 1 ≡ false))
      one_bit zero zero hp hq = inl refl
      one_bit zero (suc zero) hp hq = inr (refl, refl)
      one_bit (suc zero) zero hp hq = inl refl
      one_bit (suc zero) (suc zero) hp hq = inl refl
      one_bit (suc (suc p)) q hp hq = absurd (omega (arith, hp))
      one_bit zero (suc (suc q)) hp hq = absurd (omega (arith, hq))
      one_bit (suc zero) (suc (suc q)) hp hq = absurd (omega (arith, hq))

pub bits_absent : (words : List ℕ) (word mask : ℕ) → mask < 2 ^ 64 → eqb (bit_and (get_or words word 0) mask) mask ≡ false → (k : ℕ) × (k < 64) × (bit_at mask k ≡ 1) × (has_byte words (64 * word + k) ≡ false)
bits_absent words word mask fits some =
    elim (lacking (get_or words word 0) mask 64) [
      | inl same ↦ absurd (eqb-false _ _ some (same_from_bits (bit_and (get_or words word 0) mask) mask (λ k. elim (cases_lt k 64) [
        | inl lt ↦ same k lt
        | inr le ↦ (
            let none : bit_at mask k ≡ 0 = bit_at_above mask 64 k fits le in
            bit_at_and (get_or words word 0) mask k ∙ omega (arith, none)
            )
      ])))
      | inr (k, small, one, none) ↦ (k, small, one, byte_of words word k small ∙ none)
    ]

-- ---- loops over the words

-- the first k numbers are made of those of two lists, the rest are the first's
pub record AreMerged (f : ℕ → ℕ → ℕ) (k : ℕ) (now old other : List ℕ) : Type 0 where
  pub merged : (n : ℕ) → n < k → get_or now n 0 ≡ f (get_or old n 0) (get_or other n 0)
  pub rest : (n : ℕ) → k ≤ n → get_or now n 0 ≡ get_or old n 0

pub merged_none : (f : ℕ → ℕ → ℕ) (old other : List ℕ) → AreMerged f 0 old old other
merged_none f old other = record { merged = λ n h. absurd (omega (arith, h)); rest = λ n h. refl }

pub merged_more : (f : ℕ → ℕ → ℕ) (k : ℕ) (now old other : List ℕ) (x d e : ℕ) → AreMerged f k now old other → k < length now → k < length other → x ≡ f (get_or now k d) (get_or other k e) → AreMerged f (k + 1) (set now k x) old other
merged_more f k now old other x d e m inside there is = record {
  merged = λ n less. elim (eqb_tells n k) [
    | inl (_, same) ↦ ap (λ (j : ℕ). get_or (set now k x) j 0) same ∙ here ∙ ap (λ (j : ℕ). f (get_or old j 0) (get_or other j 0)) (sym same)
    | inr (_, apart) ↦ get_or-set_other now k n x 0 apart ∙ m.merged n (below n less apart)
  ];
  rest = λ n past. get_or-set_other now k n x 0 (λ (same : n ≡ k). absurd (omega (arith, past, same))) ∙ m.rest n (omega (arith, past));
} where
  below : (n : ℕ) → n < k + 1 → (n ≡ k → ⊥) → n < k
  below n less apart = elim (cases_lt n k) [ inl lt ↦ lt | inr le ↦ absurd (apart (omega (arith, less, le))) ]

  here : get_or (set now k x) k 0 ≡ f (get_or old k 0) (get_or other k 0)
  here =
      get_or-set_same now k x 0 inside ∙ is
      ∙ ap (λ (v : ℕ). f v (get_or other k e)) (get_or_default now k d 0 inside ∙ m.rest k (omega arith))
      ∙ ap (λ (v : ℕ). f (get_or old k 0) v) (get_or_default other k e 0 there)

pub intersected_all : (now old other : List ℕ) (used : ℕ) → AreMerged bit_and used now old other → AreZeroFrom used old → (i : ℕ) → has_byte now i ≡ (has_byte old i && has_byte other i)
intersected_all now old other used m none i =
    elim (cases_lt (i / 64) used) [
      | inl low ↦ ap (λ (v : ℕ). eqb (bit_at v (i % 64)) 1) (m.merged (i / 64) low) ∙ both_bits (get_or old (i / 64) 0) (get_or other (i / 64) 0) (i % 64)
      | inr past ↦ (
          let absent : has_byte old i ≡ false = ap (λ (v : ℕ). eqb (bit_at v (i % 64)) 1) (none (i / 64) past) ∙ ap (λ (v : ℕ). eqb v 1) (bit_at-zero (i % 64)) in
          ap (λ (v : ℕ). eqb (bit_at v (i % 64)) 1) (m.rest (i / 64) past) ∙ absent ∙ sym (ap (λ (b : Bool). b && has_byte other i) absent)
          )
    ]

-- the first k words are the other's
pub record AreCopied (k : ℕ) (now old other : List ℕ) : Type 0 where
  pub long : length now ≡ length old
  pub copied : (n : ℕ) → n < k → get_or now n 0 ≡ get_or other n 0
  pub rest : (n : ℕ) → k ≤ n → get_or now n 0 ≡ get_or old n 0

pub copied_none : (old other : List ℕ) → AreCopied 0 old old other
copied_none old other = record { long = refl; copied = λ n h. absurd (omega (arith, h)); rest = λ n h. refl }

pub copied_more : (k : ℕ) (now old other : List ℕ) (x d : ℕ) → AreCopied k now old other → k < length old → k < length other → x ≡ get_or other k d → AreCopied (k + 1) (set now k x) old other
copied_more k now old other x d m inside there is = record {
  long = length-set now k x ∙ m.long;
  copied = λ n less. elim (eqb_tells n k) [
    | inl (_, same) ↦ (
        let within : k < length now = let long = m.long in omega (arith, long, inside) in
        ap (λ (j : ℕ). get_or (set now k x) j 0) same ∙ get_or-set_same now k x 0 within ∙ is ∙ get_or_default other k d 0 there ∙ ap (λ (j : ℕ). get_or other j 0) (sym same)
        )
    | inr (_, apart) ↦ get_or-set_other now k n x 0 apart ∙ m.copied n (below n less apart)
  ];
  rest = λ n past. get_or-set_other now k n x 0 (λ (same : n ≡ k). absurd (omega (arith, past, same))) ∙ m.rest n (omega (arith, past));
} where
  below : (n : ℕ) → n < k + 1 → (n ≡ k → ⊥) → n < k
  below n less apart = elim (cases_lt n k) [ inl lt ↦ lt | inr le ↦ absurd (apart (omega (arith, less, le))) ]

pub copied_all : (now old other : List ℕ) (k mine yours : ℕ) → k ≡ max mine yours → length old ≡ length other → AreCopied k now old other → AreZeroFrom mine old → AreZeroFrom yours other → now ≡ other
copied_all now old other k mine yours end long m none_here none_there =
    ext_get_or 0 now other (m.long ∙ long) (λ n inside. elim (cases_lt n k) [
      | inl less ↦ m.copied n less
      | inr past ↦ (
          let low = le-max_left mine yours in
          let high = le-max_right mine yours in
          m.rest n past ∙ none_here n (omega (arith, past, end, low)) ∙ sym (none_there n (omega (arith, past, end, high)))
          )
    ])

-- the words from one on and before another are 0, the others as they were
pub record AreCleared (from to : ℕ) (now old : List ℕ) : Type 0 where
  pub long : length now ≡ length old
  pub cleared : (n : ℕ) → from ≤ n → n < to → get_or now n 0 ≡ 0
  pub below : (n : ℕ) → n < from → get_or now n 0 ≡ get_or old n 0
  pub above : (n : ℕ) → to ≤ n → get_or now n 0 ≡ get_or old n 0

pub cleared_none : (from : ℕ) (old : List ℕ) → AreCleared from from old old
cleared_none from old = record { long = refl; cleared = λ n low high. absurd (omega (arith, low, high)); below = λ n h. refl; above = λ n h. refl }

pub cleared_more : (from to : ℕ) (now old : List ℕ) → AreCleared from to now old → from ≤ to → to < length old → AreCleared from (to + 1) (set now to 0) old
cleared_more from to now old m order inside = record {
  long = length-set now to 0 ∙ m.long;
  cleared = λ n low high. elim (eqb_tells n to) [
    | inl (_, same) ↦ (
        let within : to < length now = let long = m.long in omega (arith, long, inside) in
        ap (λ (j : ℕ). get_or (set now to 0) j 0) same ∙ get_or-set_same now to 0 0 within
        )
    | inr (_, apart) ↦ get_or-set_other now to n 0 0 apart ∙ m.cleared n low (under n high apart)
  ];
  below = λ n h. get_or-set_other now to n 0 0 (λ (same : n ≡ to). absurd (omega (arith, h, same, order))) ∙ m.below n h;
  above = λ n h. get_or-set_other now to n 0 0 (λ (same : n ≡ to). absurd (omega (arith, h, same))) ∙ m.above n (omega (arith, h));
} where
  under : (n : ℕ) → n < to + 1 → (n ≡ to → ⊥) → n < to
  under n less apart = elim (cases_lt n to) [ inl lt ↦ lt | inr le ↦ absurd (apart (omega (arith, less, le))) ]

pub cleared_frame : (depth to : ℕ) (now old : List ℕ) → to ≡ depth * 8 + 8 → AreCleared (depth * 8) to now old → (i : ℕ) → has_byte now i ≡ (has_byte old i && not (is_in_frame depth (frame_start 0 + i)))
cleared_frame depth to now old end m i =
    elim (cases_lt i (512 * depth)) [
      | inl low ↦ (
          let out : leb (frame_start depth) (frame_start 0 + i) ≡ false = lt-leb (frame_start depth) (frame_start 0 + i) (omega (arith, low)) in
          kept (m.below (i / 64) (omega (arith, low))) (ap (λ (b : Bool). b && ltb (frame_start 0 + i) (frame_end depth)) out)
          )
      | inr high ↦ elim (cases_lt i (512 * depth + 512)) [
        | inl inside ↦ (
            let low : leb (frame_start depth) (frame_start 0 + i) ≡ true = le-leb (frame_start depth) (frame_start 0 + i) (omega (arith, high)) in
            let up : ltb (frame_start 0 + i) (frame_end depth) ≡ true = lt-ltb (frame_start 0 + i) (frame_end depth) (omega (arith, inside)) in
            gone (m.cleared (i / 64) (omega (arith, high)) (omega (arith, inside, end))) (ap (λ (b : Bool). b && ltb (frame_start 0 + i) (frame_end depth)) low ∙ up)
            )
        | inr past ↦ (
            let up : ltb (frame_start 0 + i) (frame_end depth) ≡ false = le-ltb (frame_start 0 + i) (frame_end depth) (omega (arith, past)) in
            kept (m.above (i / 64) (omega (arith, past, end))) (ap (λ (b : Bool). leb (frame_start depth) (frame_start 0 + i) && b) up ∙ and_false (leb (frame_start depth) (frame_start 0 + i)))
            )
      ]
    ] where
      and_false : (b : Bool) → (b && false) ≡ false
      and_false true = refl
      and_false false = refl

      and_true : (b : Bool) → b ≡ (b && true)
      and_true true = refl
      and_true false = refl

      none : (b : Bool) → false ≡ (b && false)
      none true = refl
      none false = refl

      kept : get_or now (i / 64) 0 ≡ get_or old (i / 64) 0 → is_in_frame depth (frame_start 0 + i) ≡ false → has_byte now i ≡ (has_byte old i && not (is_in_frame depth (frame_start 0 + i)))
      kept same out = ap (λ (v : ℕ). eqb (bit_at v (i % 64)) 1) same ∙ and_true (has_byte old i) ∙ ap (λ (b : Bool). has_byte old i && not b) (sym out)

      gone : get_or now (i / 64) 0 ≡ 0 → is_in_frame depth (frame_start 0 + i) ≡ true → has_byte now i ≡ (has_byte old i && not (is_in_frame depth (frame_start 0 + i)))
      gone same there = ap (λ (v : ℕ). eqb (bit_at v (i % 64)) 1) same ∙ ap (λ (v : ℕ). eqb v 1) (bit_at-zero (i % 64)) ∙ none (has_byte old i) ∙ ap (λ (b : Bool). has_byte old i && not b) (sym there)

-- no byte at all
pub zeros : (n k : ℕ) → get_or {A = ℕ} (replicate n 0) k 0 ≡ 0
zeros zero k = refl
zeros (suc n) zero = refl
zeros (suc n) (suc k) = zeros n k

pub no_byte_set : (i : ℕ) → i < 4096 → has_byte (replicate 64 0) i ≡ false
no_byte_set i h = ap (λ (v : ℕ). eqb (bit_at v (i % 64)) 1) (zeros 64 (i / 64)) ∙ ap (λ (v : ℕ). eqb v 1) (bit_at-zero (i % 64))
