-- Lists joined end to end, and parts of them.
use Rattle.std.proofs.Common.{◌≡◌, ℕ, zero, suc, ◌+◌, ◌*◌, ◌<◌, ◌≤◌, inl, inr, List, [], ◌++◌, length, take, drop, refl, sym, ◌∙◌, ap, arith, add-one, mul-le-mul_left, length-append, length-drop}
use Rattle.std.proofs.lemmas.List.{append_assoc, drop-append-le, drop_at, take-append-le, take_all}
use Rattle.std.proofs.lemmas.Bool.{cases_lt}
use Rattle.lms_ots.specs.Ots.{concatenation}

pub concatenation-none : (f : ℕ → List ℕ) → concatenation f 0 ≡ []
unfolding concatenation
concatenation-none f = refl

pub concatenation-more : (f : ℕ → List ℕ) (n : ℕ) → concatenation f (n + 1) ≡ concatenation f n ++ f n
unfolding concatenation
concatenation-more f n = ap (concatenation f) (add-one n)

-- one more part behind a list and n parts
pub joined_push : (p : List ℕ) (f : ℕ → List ℕ) (n : ℕ) → (p ++ concatenation f n) ++ f n ≡ p ++ concatenation f (n + 1)
joined_push p f n = append_assoc p (concatenation f n) (f n) ∙ ap (λ t. p ++ t) (sym (concatenation-more f n))

-- parts of one length each
pub length-concatenation : (f : ℕ → List ℕ) (w n : ℕ) → ((i : ℕ) → length (f i) ≡ w) → length (concatenation f n) ≡ w * n
unfolding concatenation
length-concatenation f w zero each = omega arith
length-concatenation f w (suc n) each =
    omega (arith, length-append (concatenation f n) (f n), length-concatenation f w n each, each n)

-- two concatenations whose parts are equal
pub joined_same : (f g : ℕ → List ℕ) (n : ℕ) → ((i : ℕ) → i < n → f i ≡ g i) → concatenation f n ≡ concatenation g n
unfolding concatenation
joined_same f g zero each = refl
joined_same f g (suc n) each =
    let front : concatenation f n ≡ concatenation g n = joined_same f g n (λ i h. each i (omega arith)) in
    let here : f n ≡ g n = each n (omega arith) in
    cc (front, here)

-- a part that begins within the first of two lists, and ends there
pub part_of_first : (a b : List ℕ) (at w : ℕ) → at + w ≤ length a → take w (drop at (a ++ b)) ≡ take w (drop at a)
part_of_first a b at w h =
    ap (λ t. take w t) (drop-append-le at a b (omega arith))
    ∙ take-append-le w (drop at a) b (omega (arith, length-drop at a))

-- the second of two lists, as a part
pub part_second : (a b : List ℕ) (at w : ℕ) → length a ≡ at → length b ≡ w → take w (drop at (a ++ b)) ≡ b
part_second a b at w ea eb = ap (λ t. take w t) (drop_at a b at ea) ∙ take_all w b (omega arith)

-- piece i is behind the i before it
pub piece-concatenation : (f : ℕ → List ℕ) (w n i : ℕ) → ((i : ℕ) → length (f i) ≡ w) → i < n
    → take w (drop (w * i) (concatenation f n)) ≡ f i
unfolding concatenation
piece-concatenation f w zero i each h = absurd (omega arith)
piece-concatenation f w (suc n) i each h =
    let long : length (concatenation f n) ≡ w * n = length-concatenation f w n each in
    elim (cases_lt i n) [
      | inl below ↦
          let fits : w * i + w ≤ w * n = omega (arith, mul-le-mul_left w (let next : i + 1 ≤ n = omega arith in next)) in
          part_of_first (concatenation f n) (f n) (w * i) w (omega arith) ∙ piece-concatenation f w n i each below
      | inr above ↦
          let last : i ≡ n = omega arith in
          part_second (concatenation f n) (f n) (w * i) w (long ∙ ap (λ k. w * k) (sym last)) (each n) ∙ ap f (sym last)
    ]
