-- Two lists, related one for one, as a walk over the first goes.
use Rattle.std.proofs.Common.{◌≡◌, ℕ, zero, suc, ◌+◌, ◌<◌, ◌≤◌, List, [], ◌∷◌, ◌++◌, Option, Some, None, length, get_or, drop, refl, sym, ap, subst, ◌∙◌, arith, append_assoc, append-nil}
use Rattle.std.specs.Prelude.{map}
use Rattle.std.proofs.Math.ListN.{drop_of_length-le}
use Rattle.view_change.specs.Made.{OneForOne}

pub paired_maps : {X Y Z : Type 0} (f : X → Z) (g : Y → Z) (xs : List X) (ys : List Y) → map f xs ≡ map g ys → OneForOne (λ x y. f x ≡ g y) xs ys
paired_maps f g [] [] e = tt
paired_maps f g [] (y ∷ ys) e = absurd cc
paired_maps f g (x ∷ xs) [] e = absurd cc
paired_maps f g (x ∷ xs) (y ∷ ys) e = (cc, paired_maps f g xs ys cc)

-- the partner of the present element
partner : {X Y : Type 0} (R : X → Y → Type 0) (xs : List X) (ys : List Y) (i : ℕ) (x : X) → OneForOne R xs ys → i < length xs → x ≡ get_or xs i x → (y : Y) × R x y × (drop i ys ≡ y ∷ drop (i + 1) ys)
partner R [] ys i x h lt is = absurd (omega arith)
partner R (z ∷ xs) [] i x h lt is = absurd h
partner {X} {Y} R (z ∷ xs) (y ∷ ys) zero x h lt is = (y, subst (λ (w : X). R w y) (sym is) h.0, refl)
partner {X} {Y} R (z ∷ xs) (y ∷ ys) (suc i) x h lt is =
    let next : suc (i + 1) ≡ suc i + 1 = omega arith in
    let w = partner R xs ys i x h.1 (omega arith) is in
    (w.0, w.1, w.2 ∙ ap (λ (n : ℕ). w.0 ∷ drop n (y ∷ ys)) next)

same_length : {X Y : Type 0} (R : X → Y → Type 0) (xs : List X) (ys : List Y) → OneForOne R xs ys → length xs ≡ length ys
same_length R [] [] h = refl
same_length R [] (y ∷ ys) h = absurd h
same_length R (x ∷ xs) [] h = absurd h
same_length R (x ∷ xs) (y ∷ ys) h = ap suc (same_length R xs ys h.1)

abbrev pub with_some : {Y : Type 0} → List Y → Option Y → List Y
with_some out None = out
with_some out (Some y) = out ++ y ∷ []

-- one element further on
pub walked : {X Y : Type 0} (R : X → Y → Type 0) (xs : List X) (ys : List Y) (i : ℕ) (x : X) (out next : List Y) (o : Option Y) → OneForOne R xs ys → i < length xs → x ≡ get_or xs i x
    → ((y : Y) → R x y → o ≡ Some y) → next ≡ with_some out o → out ++ drop i ys ≡ ys → next ++ drop (i + 1) ys ≡ ys
walked {X} {Y} R xs ys i x out next o h lt is found next_is so_far =
    let w = partner R xs ys i x h lt is in
    let one : next ≡ out ++ w.0 ∷ [] = next_is ∙ ap (with_some out) (found w.0 w.1) in
    ap (λ (zs : List Y). zs ++ drop (i + 1) ys) one ∙ append_assoc out (w.0 ∷ []) (drop (i + 1) ys) ∙ ap (λ (zs : List Y). out ++ zs) (sym w.2) ∙ so_far

-- at the end
pub walked_all : {X Y : Type 0} (R : X → Y → Type 0) (xs : List X) (ys : List Y) (i : ℕ) (out : List Y) → OneForOne R xs ys → length xs ≤ i → out ++ drop i ys ≡ ys → out ≡ ys
walked_all {X} {Y} R xs ys i out h le so_far =
    let same = same_length R xs ys h in
    let none : drop i ys ≡ [] = drop_of_length-le ys (omega arith) in
    sym (ap (λ (zs : List Y). out ++ zs) none ∙ append-nil out) ∙ so_far
