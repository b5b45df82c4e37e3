-- A buffer that is filled piece by piece.
use Rattle.std.proofs.Common.{◌≡◌, ℕ, ◌+◌, ◌≤◌, List, ◌++◌, length, take, sym, ◌∙◌, ap}
use Rattle.std.proofs.lemmas.List.{take_all}

-- one more piece, b, at offset n, behind what the buffer begins with
pub piece_more : (x y p b : List ℕ) (n m : ℕ) → n + length b ≡ m → take n x ≡ p
    → take (n + length b) y ≡ take n x ++ b → take m y ≡ p ++ b
piece_more x y p b n m e t h = ap (λ k. take k y) (sym e) ∙ (h ∙ ap (λ s. s ++ b) t)

-- the last piece ends at the buffer's end
pub piece_last : (x y p b : List ℕ) (n : ℕ) → length y ≤ n + length b → take n x ≡ p
    → take (n + length b) y ≡ take n x ++ b → y ≡ p ++ b
piece_last x y p b n e t h = sym (take_all (n + length b) y e) ∙ (h ∙ ap (λ s. s ++ b) t)
