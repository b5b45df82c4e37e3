-- The digits of a hash and its checksum, one by one.
use Rattle.std.proofs.Common.{◌≡◌, ℕ, ◌+◌, ◌-◌, ◌*◌, ◌/◌, ◌%◌, ◌<◌, ◌≤◌, List, ◌++◌, length, get_or, map, set, sum, ◌^◌, sym, ◌∙◌, ap, arith}
use Rattle.std.specs.List.{range_with_len}
use Rattle.std.proofs.lemmas.List.{get_or-append_right, get_or_append_left}
use Rattle.std.proofs.lemmas.List.FromFn.{fill_by_all, get_or-map-range_with_len, sum_by-map-range_with_len_more}
use Rattle.std.proofs.lemmas.List.Edits.{fill_by_more}
use Rattle.lms_ots.specs.Ots.{checksum, coef, digit, digits_of, u16str}

pub get_or-digits_of : (q : List ℕ) (i : ℕ) → i < 67 → get_or (digits_of q) i 0 ≡ digit q i
unfolding digits_of
get_or-digits_of q i h = get_or-map-range_with_len (digit q) 0 67 i i 0 h (omega arith)

pub digits_from_each : (q ds : List ℕ) (n : ℕ) → n ≡ 67 → length ds ≡ 67 → ((k : ℕ) → k < n → get_or ds k 0 ≡ digit q k) → ds ≡ digits_of q
unfolding digits_of
digits_from_each q ds n e w each = fill_by_all (digit q) ds 67 0 w (λ k h. each k (omega arith))

-- one number more in a sum
pub sum-map-range_more : (f : ℕ → ℕ) (n : ℕ)
    → sum (map f (range_with_len 0 (n + 1))) ≡ sum (map f (range_with_len 0 n)) + f n
sum-map-range_more f n = sum_by-map-range_with_len_more (λ x. x) f 0 n n (omega arith)

-- one index more of a list that is filled index by index
pub fill_index : (f : ℕ → ℕ) (xs : List ℕ) (i v : ℕ) → v ≡ f i → i < length xs
    → ((k : ℕ) → k < i → get_or xs k 0 ≡ f k) → (k : ℕ) → k < i + 1 → get_or (set xs i v) k 0 ≡ f k
fill_index f xs i v e l below k h = ap (λ u. get_or (set xs i u) k 0) e ∙ fill_by_more f xs i 0 l below k h

-- a digit of the hash
pub digit_of_hash : (q : List ℕ) (i : ℕ) → length q ≡ 32 → i < 64 → coef q i ≡ digit q i
digit_of_hash q i w h =
    ap (λ b. b / 2 ^ (4 - 4 * (i % 2)) % 16) (sym (get_or_append_left q (u16str (checksum q)) 0 (i / 2) (omega arith)))

-- a digit of the checksum
pub digit_of_checksum : (q : List ℕ) (i : ℕ) → length q ≡ 32 → 64 ≤ i
    → coef (u16str (checksum q)) (i - 64) ≡ digit q i
digit_of_checksum q i w h =
    let t : List ℕ = u16str (checksum q) in
    let same_byte : (i - 64) / 2 ≡ i / 2 - 32 = omega arith in
    let half : (i - 64) % 2 ≡ i % 2 = omega arith in
    let byte : get_or t ((i - 64) / 2) 0 ≡ get_or (q ++ t) (i / 2) 0 =
    ap (λ k. get_or t k 0) same_byte ∙ sym (get_or-append_right q t 32 (i / 2) 0 w (omega arith)) in
    ap (λ k. get_or t ((i - 64) / 2) 0 / 2 ^ (4 - 4 * k) % 16) half
    ∙ ap (λ b. b / 2 ^ (4 - 4 * (i % 2)) % 16) byte
