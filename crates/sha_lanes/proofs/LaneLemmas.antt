-- What holds of each lane.
use Rattle.std.proofs.Common.{◌≡◌, ℕ, zero, suc, ◌+◌, ◌-◌, ◌*◌, ◌/◌, ◌%◌, ◌^◌, ◌<◌, ◌≤◌, List, [], ◌∷◌, length, map, slice_index, slice_index_or, slice_set, bit_or, refl, ap, ◌∙◌, arith}
use Rattle.std.specs.Int.{rotate_right, w32}
use Rattle.std.specs.Simd.Lanes.{zip2}
use Rattle.sha_lanes.specs.Lanes.{word_in, words_in}

-- what holds of each of eight
pub below_eight : (P : ℕ → Type 0) → P 0 → P 1 → P 2 → P 3 → P 4 → P 5 → P 6 → P 7 → (j : ℕ) → j < 8 → P j
below_eight P a b c d e f g h zero lt = a
below_eight P a b c d e f g h (suc zero) lt = b
below_eight P a b c d e f g h (suc (suc zero)) lt = c
below_eight P a b c d e f g h (suc (suc (suc zero))) lt = d
below_eight P a b c d e f g h (suc (suc (suc (suc zero)))) lt = e
below_eight P a b c d e f g h (suc (suc (suc (suc (suc zero))))) lt = f
below_eight P a b c d e f g h (suc (suc (suc (suc (suc (suc zero)))))) lt = g
below_eight P a b c d e f g h (suc (suc (suc (suc (suc (suc (suc zero))))))) lt = h
below_eight P a b c d e f g h (suc (suc (suc (suc (suc (suc (suc (suc n)))))))) lt = absurd (omega arith)

-- what holds of each list of eight
pub eight_lanes : (P : List ℕ → Type 0) → ((a b c d e f g h : ℕ) → P (a ∷ b ∷ c ∷ d ∷ e ∷ f ∷ g ∷ h ∷ [])) → (xs : List ℕ) → length xs ≡ 8 → P xs
eight_lanes P p (a ∷ b ∷ c ∷ d ∷ e ∷ f ∷ g ∷ h ∷ []) n = p a b c d e f g h
eight_lanes P p [] n = absurd (omega arith)
eight_lanes P p (a ∷ []) n = absurd (omega arith)
eight_lanes P p (a ∷ b ∷ []) n = absurd (omega arith)
eight_lanes P p (a ∷ b ∷ c ∷ []) n = absurd (omega arith)
eight_lanes P p (a ∷ b ∷ c ∷ d ∷ []) n = absurd (omega arith)
eight_lanes P p (a ∷ b ∷ c ∷ d ∷ e ∷ []) n = absurd (omega arith)
eight_lanes P p (a ∷ b ∷ c ∷ d ∷ e ∷ f ∷ []) n = absurd (omega arith)
eight_lanes P p (a ∷ b ∷ c ∷ d ∷ e ∷ f ∷ g ∷ []) n = absurd (omega arith)
eight_lanes P p (a ∷ b ∷ c ∷ d ∷ e ∷ f ∷ g ∷ h ∷ i ∷ xs) n = absurd (omega arith)

-- two shifts of each lane and an or are a rotation
abbrev Rotates : ℕ → List ℕ → Type 0
Rotates k x = (j : ℕ) → j < 8
    → slice_index (zip2 bit_or
    (zip2 (λ x n. x / 2 ^ n) x (k ∷ k ∷ k ∷ k ∷ k ∷ k ∷ k ∷ k ∷ []))
    (zip2 (λ x n. x * 2 ^ n % 2 ^ 32) x ((32 - k) ∷ (32 - k) ∷ (32 - k) ∷ (32 - k) ∷ (32 - k) ∷ (32 - k) ∷ (32 - k) ∷ (32 - k) ∷ []))) j
    ≡ rotate_right w32 (slice_index x j) k

pub shifts_rotate : (k : ℕ) → 0 < k → k < 32 → (x : List ℕ) → length x ≡ 8 → Rotates k x
shifts_rotate k low high =
    let right : k % 32 ≡ k = omega arith in
    let left : (32 - k) % 32 ≡ 32 - k = omega arith in
    eight_lanes (Rotates k) (λ a b c d e f g h.
    below_eight _ (rw (right, left) refl) (rw (right, left) refl) (rw (right, left) refl) (rw (right, left) refl) (rw (right, left) refl) (rw (right, left) refl) (rw (right, left) refl) (rw (right, left) refl))

abbrev Shifts : ℕ → List ℕ → Type 0
Shifts k x = (j : ℕ) → j < 8 → slice_index (zip2 (λ x n. x / 2 ^ n) x (k ∷ k ∷ k ∷ k ∷ k ∷ k ∷ k ∷ k ∷ [])) j ≡ slice_index x j / 2 ^ k

pub shifts : (k : ℕ) → k < 32 → (x : List ℕ) → length x ≡ 8 → Shifts k x
shifts k high = eight_lanes (Shifts k) (λ a b c d e f g h. below_eight _ refl refl refl refl refl refl refl refl)

-- word k of the words in a lane
pub word_of_lane : (w : List (List ℕ)) (j k : ℕ) → k < length w → slice_index (words_in w j) k ≡ word_in w j k
word_of_lane [] j k lt = absurd (omega arith)
word_of_lane (x ∷ w) j zero lt = refl
word_of_lane (x ∷ w) j (suc k) lt = word_of_lane w j k (omega arith)

pub length_of_lane : (w : List (List ℕ)) (j : ℕ) → length (words_in w j) ≡ length w
length_of_lane [] j = refl
length_of_lane (x ∷ w) j = ap suc (length_of_lane w j)

-- a word put in its place, in each lane
pub lane_of_set : (w : List (List ℕ)) (i : ℕ) (x : List ℕ) (j : ℕ) → words_in (slice_set w i x) j ≡ slice_set (words_in w j) i (slice_index x j)
lane_of_set [] i x j = refl
lane_of_set (y ∷ w) zero x j = refl
lane_of_set (y ∷ w) (suc i) x j = ap (λ t. slice_index y j ∷ t) (lane_of_set w i x j)
