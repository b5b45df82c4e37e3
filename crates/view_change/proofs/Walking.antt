-- Walks over a list: what is left of it, and the greatest of numbers.
use Rattle.std.proofs.Common.{◌≡◌, ℕ, suc, ◌+◌, ◌<◌, List, [], ◌∷◌, ◌++◌, length, get_or, drop, sym, ap, ◌∙◌, arith}
use Rattle.std.specs.Prelude.{map, max}
use Rattle.std.specs.List.{flat_map}
use Rattle.std.proofs.Math.Seq.{drop-cons}
use Rattle.quorum_log.specs.Validity.{greatest_of}

-- what is left begins with the present element
pub rest_at : {X : Type 0} (xs : List X) (i : ℕ) (x : X) → i < length xs → x ≡ get_or xs i x → drop i xs ≡ x ∷ drop (i + 1) xs
rest_at {X} xs i x lt is =
    let next : i + 1 ≡ suc i = omega arith in
    rw next (drop-cons xs i x lt ∙ ap (λ (y : X). y ∷ drop (suc i) xs) (sym is))

pub greatest_over : {Y : Type 0} (f : Y → ℕ) (ys zs : List Y) → greatest_of (map f (ys ++ zs)) ≡ max (greatest_of (map f ys)) (greatest_of (map f zs))
greatest_over f [] zs = omega arith
greatest_over f (y ∷ ys) zs = omega (arith, greatest_over f ys zs)

-- the greatest so far and of the rest, one element further on
pub greatest_on : {X Y : Type 0} (f : Y → ℕ) (g : X → List Y) (xs : List X) (i : ℕ) (x : X) (ys : List Y) (whole top next : ℕ)
    → i < length xs → x ≡ get_or xs i x → ys ≡ g x → whole ≡ max top (greatest_of (map f (flat_map g (drop i xs)))) → next ≡ max top (greatest_of (map f ys))
    → whole ≡ max next (greatest_of (map f (flat_map g (drop (i + 1) xs))))
greatest_on {X} {Y} f g xs i x ys whole top next lt is ys_are so_far next_is =
    let parts : greatest_of (map f (flat_map g (drop i xs))) ≡ max (greatest_of (map f ys)) (greatest_of (map f (flat_map g (drop (i + 1) xs)))) =
    ap (λ (zs : List X). greatest_of (map f (flat_map g zs))) (rest_at xs i x lt is)
    ∙ ap (λ (zs : List Y). greatest_of (map f (zs ++ flat_map g (drop (i + 1) xs)))) (sym ys_are)
    ∙ greatest_over f ys (flat_map g (drop (i + 1) xs)) in
    omega arith
