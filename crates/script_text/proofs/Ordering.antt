-- A list of which each item is changed in turn.
use Rattle.std.proofs.Common.{◌≡◌, ℕ, ◌+◌, ◌<◌, List, [], ◌∷◌, ◌++◌, length, get_or, set, take, drop, map, refl, sym, ap, ◌∙◌, arith}
use Rattle.std.proofs.lemmas.List.{drop-set-lt, drop_more, map-append, take_more, take_more_set}
use Rattle.std.proofs.lemmas.Grind.{drop_more_same}

-- The first i of ys are changed, and the rest is as it was; so it is behind one more.
pub one_more : {X : Type 0} (f : X → X) (xs ys : List X) (i : ℕ) (d y : X) → i < length xs → i < length ys → take i xs ≡ map f (take i ys) → drop i xs ≡ drop i ys → y ≡ f (get_or xs i d)
    → (take (i + 1) (set xs i y) ≡ map f (take (i + 1) ys)) × (drop (i + 1) (set xs i y) ≡ drop (i + 1) ys)
one_more {X} f xs ys i d y inx iny changed rest is = (
  take_more_set xs i y inx ∙ ap (λ (zs : List X). zs ++ y ∷ []) changed ∙ ap (λ (z : X). map f (take i ys) ++ z ∷ []) (is ∙ ap f same)
      ∙ sym (map-append f (take i ys) (get_or ys i d ∷ [])) ∙ ap (map f) (sym (take_more ys i d iny)),
  drop-set-lt (i + 1) xs i y (omega arith) ∙ drop_more_same xs ys i rest,
) where
  same : get_or xs i d ≡ get_or ys i d
  same = ap (λ (zs : List X). get_or zs 0 d) (sym (drop_more xs i d inx) ∙ rest ∙ drop_more ys i d iny)
