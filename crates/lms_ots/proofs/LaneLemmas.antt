-- What shifts and sums of vectors leave in each lane.
use Rattle.std.proofs.Common.{◌≡◌, ℕ, ◌+◌, ◌-◌, ◌*◌, ◌/◌, ◌%◌, ◌^◌, ◌<◌, ◌∙◌, List, [], ◌∷◌, ap, cond, false, length, map, nat_lt, slice_index, sym, refl, arith, Fits, w32}
use Rattle.std.proofs.lemmas.Simd.{Each1-get_or, below_from_Fits, get_or-sel_l, get_or-zip2, length-zip2, tops_compared}
use Rattle.std.specs.Simd.Lanes.{Each1, zip2}
use lib.Lanes.{sel_l, top}
use Rattle.sha_lanes.proofs.LaneLemmas.{below_eight, eight_lanes}

abbrev pub same : ℕ → List ℕ
same n = n ∷ n ∷ n ∷ n ∷ n ∷ n ∷ n ∷ n ∷ []

pub lane_below : (x : List ℕ) → (length x ≡ 8) × Each1 (Fits w32) x → (j : ℕ) → j < 8 → slice_index x j < 2 ^ 32
lane_below x fits j lt = Each1-get_or (λ n. n < 2 ^ 32) x j 0 (omega arith) (below_from_Fits w32 x fits.1)

-- each lane by two to the n, and by its inverse
abbrev pub up : List ℕ → ℕ → List ℕ
up x n = zip2 (λ x n. x * 2 ^ n % 2 ^ 32) x (same n)

abbrev pub down : List ℕ → ℕ → List ℕ
down x n = zip2 (λ x n. x / 2 ^ n) x (same n)

abbrev pub sums : List ℕ → List ℕ → List ℕ
sums x y = zip2 (λ x y. (x + y) % 2 ^ 32) x y

abbrev pub Over : List ℕ → List ℕ → Type 0
Over x y = (j : ℕ) → j < 8 → slice_index (sums (up x 8) (down y 24)) j ≡ (slice_index x j * 2 ^ 8 % 2 ^ 32 + slice_index y j / 2 ^ 24) % 2 ^ 32

pub shifted_over : (x : List ℕ) → length x ≡ 8 → (y : List ℕ) → length y ≡ 8 → Over x y
shifted_over =
    eight_lanes (λ x. (y : List ℕ) → length y ≡ 8 → Over x y) (λ a b c d e f g h.
    eight_lanes (Over (a ∷ b ∷ c ∷ d ∷ e ∷ f ∷ g ∷ h ∷ [])) (λ k l m n o p q r.
    below_eight _ refl refl refl refl refl refl refl refl))

abbrev pub Heads : List ℕ → List ℕ → List ℕ → Type 0
Heads x y z = (j : ℕ) → j < 8 → slice_index (sums (sums (up x 16) (up y 8)) (down z 24)) j
    ≡ ((slice_index x j * 2 ^ 16 % 2 ^ 32 + slice_index y j * 2 ^ 8 % 2 ^ 32) % 2 ^ 32 + slice_index z j / 2 ^ 24) % 2 ^ 32

pub shifted_heads : (x : List ℕ) → length x ≡ 8 → (y : List ℕ) → length y ≡ 8 → (z : List ℕ) → length z ≡ 8 → Heads x y z
shifted_heads =
    eight_lanes (λ x. (y : List ℕ) → length y ≡ 8 → (z : List ℕ) → length z ≡ 8 → Heads x y z) (λ a b c d e f g h.
    eight_lanes (λ y. (z : List ℕ) → length z ≡ 8 → Heads (a ∷ b ∷ c ∷ d ∷ e ∷ f ∷ g ∷ h ∷ []) y z) (λ k l m n o p q r.
    eight_lanes (Heads (a ∷ b ∷ c ∷ d ∷ e ∷ f ∷ g ∷ h ∷ []) (k ∷ l ∷ m ∷ n ∷ o ∷ p ∷ q ∷ r ∷ [])) (λ s t u v w x y z.
    below_eight _ refl refl refl refl refl refl refl refl)))

pub same_in_each : (n j : ℕ) → j < 8 → slice_index (same n) j ≡ n
same_in_each n = below_eight _ refl refl refl refl refl refl refl refl

abbrev pub Lessened : List ℕ → List ℕ → Type 0
Lessened x y = (j : ℕ) → j < 8 → slice_index (zip2 (λ x y. (x + (2 ^ 32 - y)) % 2 ^ 32) x y) j ≡ (slice_index x j + (2 ^ 32 - slice_index y j)) % 2 ^ 32

pub lessened : (x : List ℕ) → length x ≡ 8 → (y : List ℕ) → length y ≡ 8 → Lessened x y
lessened =
    eight_lanes (λ x. (y : List ℕ) → length y ≡ 8 → Lessened x y) (λ a b c d e f g h.
    eight_lanes (Lessened (a ∷ b ∷ c ∷ d ∷ e ∷ f ∷ g ∷ h ∷ [])) (λ k l m n o p q r.
    below_eight _ refl refl refl refl refl refl refl refl))

-- the lanes of a comparison's mask choose between two words
pub selected : (a b x y : List ℕ) → length a ≡ 8 → length b ≡ 8 → length x ≡ 8 → length y ≡ 8 → (j : ℕ) → j < 8
    → slice_index (sel_l (map (top 31) (zip2 (λ a b. cond (nat_lt a b) (2 ^ 32 - 1) 0) a b)) x y) j
    ≡ cond (nat_lt (slice_index a j) (slice_index b j)) (slice_index x j) (slice_index y j)
selected a b x y la lb lx ly j lt =
    let long : length (zip2 nat_lt a b) ≡ 8 = length-zip2 nat_lt a b (la ∙ sym lb) ∙ la in
    ap (λ ms. slice_index (sel_l ms x y) j) (tops_compared w32 nat_lt a b)
    ∙ get_or-sel_l (zip2 nat_lt a b) x y j 0 (omega arith) (omega arith) (omega arith)
    ∙ ap (λ t. cond t (slice_index x j) (slice_index y j)) (get_or-zip2 nat_lt a b j 0 0 false (omega arith) (omega arith))
