-- The elements of a list after a part of it was written anew.
use Rattle.std.proofs.Common.{◌≡◌, ◌⊎◌, ℕ, ◌+◌, ◌-◌, ◌<◌, ◌≤◌, List, ◌++◌, length, get_or, take, drop, sym, ap, ◌∙◌, arith, inl, inr}
use Rattle.std.proofs.Math.Seq.{paste}
use Rattle.std.proofs.lemmas.List.Edits.{paste_all}
use Rattle.std.proofs.lemmas.List.{get_or-take, get_or-drop, get_or_append_left, get_or-append_right, length-take-le}

pub paste_within : {X : Type 0} (xs : List X) (at : ℕ) (ys : List X) (n i : ℕ) (d : X) → n ≡ length ys → at + n ≤ length xs → at ≤ i → i < at + n → get_or (paste xs at ys n) i d ≡ get_or ys (i - at) d
paste_within xs at ys n i d long fits low high =
    let head : length (take at xs) ≡ at = length-take-le at xs (omega arith) in
    ap (λ (zs : List _). get_or zs i d) (paste_all xs at ys n long)
    ∙ get_or-append_right (take at xs) (ys ++ drop (at + n) xs) at i d head low
    ∙ get_or_append_left ys (drop (at + n) xs) d (i - at) (omega arith)

pub paste_outside : {X : Type 0} (xs : List X) (at : ℕ) (ys : List X) (n i : ℕ) (d : X) → n ≡ length ys → at + n ≤ length xs → (i < at) ⊎ (at + n ≤ i) → get_or (paste xs at ys n) i d ≡ get_or xs i d
paste_outside xs at ys n i d long fits (inl low) =
    let head : length (take at xs) ≡ at = length-take-le at xs (omega arith) in
    ap (λ (zs : List _). get_or zs i d) (paste_all xs at ys n long)
    ∙ get_or_append_left (take at xs) (ys ++ drop (at + n) xs) d i (omega arith)
    ∙ get_or-take at xs i d low
paste_outside xs at ys n i d long fits (inr high) =
    let head : length (take at xs) ≡ at = length-take-le at xs (omega arith) in
    let there : at + n + (i - at - n) ≡ i = omega arith in
    ap (λ (zs : List _). get_or zs i d) (paste_all xs at ys n long)
    ∙ get_or-append_right (take at xs) (ys ++ drop (at + n) xs) at i d head (omega arith)
    ∙ get_or-append_right ys (drop (at + n) xs) n (i - at) d (sym long) (omega arith)
    ∙ get_or-drop (at + n) xs (i - at - n) d
    ∙ ap (λ (k : ℕ). get_or xs k d) there
