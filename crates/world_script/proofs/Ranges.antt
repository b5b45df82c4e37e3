-- Ranges of numbers, and lists made of them.
use Rattle.std.proofs.Common.{◌≡◌, ℕ, zero, suc, ◌+◌, List, [], ◌∷◌, ◌++◌, length, map, refl, sym, ap, ◌∙◌, arith}
use Rattle.std.specs.List.{range_with_len}
use Rattle.std.proofs.lemmas.List.{map-append}

pub range_push : (a n : ℕ) → range_with_len a (n + 1) ≡ range_with_len a n ++ (a + n) ∷ []
range_push a zero = ap (λ (k : ℕ). k ∷ []) (same a) where
  same : (a : ℕ) → a ≡ a + 0
  same a = omega arith
range_push a (suc n) =
    ap (range_with_len a) (more n) ∙ ap (λ (xs : List ℕ). a ∷ xs) (range_push (a + 1) n)
    ∙ ap (λ (k : ℕ). a ∷ range_with_len (a + 1) n ++ k ∷ []) (same a n) where
      more : (n : ℕ) → suc n + 1 ≡ suc (n + 1)
      more n = omega arith

      same : (a n : ℕ) → a + 1 + n ≡ a + suc n
      same a n = omega arith

from_zero : (n : ℕ) → range_with_len 0 (n + 1) ≡ range_with_len 0 n ++ n ∷ []
from_zero n = range_push 0 n ∙ ap (λ (k : ℕ). range_with_len 0 n ++ k ∷ []) (same n) where
  same : (n : ℕ) → 0 + n ≡ n
  same n = omega arith

-- one more of a list made of numbers
pub mapped_push : {A : Type 0} (g : ℕ → A) (n : ℕ) → map g (range_with_len 0 n) ++ g n ∷ [] ≡ map g (range_with_len 0 (n + 1))
mapped_push g n = sym (ap (map g) (from_zero n) ∙ map-append g (range_with_len 0 n) (n ∷ []))

pub length_range : (a n : ℕ) → length (range_with_len a n) ≡ n
length_range a zero = refl
length_range a (suc n) = ap suc (length_range (a + 1) n)
