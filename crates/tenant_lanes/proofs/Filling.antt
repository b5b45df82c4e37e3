-- Slots that are filled from others.
use Rattle.std.proofs.Common.{◌≡◌, ℕ, zero, suc, ◌<◌, List, [], ◌∷◌, ◌++◌, length, get_or, set, true, false, Option, Some, None, refl, sym, ap, ◌∙◌, arith}
use Rattle.std.specs.Prelude.{is_some}
use Rattle.std.proofs.lemmas.Bool.{false≢true}
use Rattle.std.proofs.lemmas.List.{set-get_or}
use Rattle.tenant_lanes.specs.Runs.{or_other, filled}

pub get_or-filled : {X : Type 0} (xs ys : List (Option X)) (i : ℕ) → length xs ≡ length ys → get_or (filled xs ys) i None ≡ or_other (get_or xs i None) (get_or ys i None)
get_or-filled [] [] i e = refl
get_or-filled [] (y ∷ ys) i e = absurd (omega arith)
get_or-filled (x ∷ xs) [] i e = absurd (omega arith)
get_or-filled (x ∷ xs) (y ∷ ys) zero e = refl
get_or-filled (x ∷ xs) (y ∷ ys) (suc i) e = get_or-filled xs ys i (omega arith)

pub length-filled : {X : Type 0} (xs ys : List (Option X)) → length xs ≡ length ys → length (filled xs ys) ≡ length ys
length-filled [] ys e = refl
length-filled (x ∷ xs) [] e = absurd (omega arith)
length-filled (x ∷ xs) (y ∷ ys) e = ap suc (length-filled xs ys (omega arith))

pub filled-set_left : {X : Type 0} (xs ys : List (Option X)) (i : ℕ) (x : X) → length xs ≡ length ys → filled (set xs i (Some x)) ys ≡ set (filled xs ys) i (Some x)
filled-set_left [] [] i x e = refl
filled-set_left [] (y ∷ ys) i x e = absurd (omega arith)
filled-set_left (w ∷ xs) [] i x e = absurd (omega arith)
filled-set_left (w ∷ xs) (y ∷ ys) zero x e = refl
filled-set_left {X} (w ∷ xs) (y ∷ ys) (suc i) x e = ap (λ (zs : List (Option X)). or_other w y ∷ zs) (filled-set_left xs ys i x (omega arith))

pub filled-set_right : {X : Type 0} (xs ys : List (Option X)) (i : ℕ) (y : X) → length xs ≡ length ys → get_or xs i None ≡ None → filled xs (set ys i (Some y)) ≡ set (filled xs ys) i (Some y)
filled-set_right [] ys i y e none = refl
filled-set_right (w ∷ xs) [] i y e none = absurd (omega arith)
filled-set_right {X} (w ∷ xs) (z ∷ ys) zero y e none = ap (λ (o : Option X). or_other o (Some y) ∷ filled xs ys) none
filled-set_right {X} (w ∷ xs) (z ∷ ys) (suc i) y e none = ap (λ (zs : List (Option X)). or_other w z ∷ zs) (filled-set_right xs ys i y (omega arith) none)

-- the last of what fills, put in first
pub filled_last : {X : Type 0} (xs ys : List (Option X)) (x : Option X) → length xs < length ys → filled (xs ++ x ∷ []) ys ≡ filled xs (set ys (length xs) (or_other x (get_or ys (length xs) None)))
filled_last [] [] x lt = absurd (omega arith)
filled_last [] (y ∷ ys) x lt = refl
filled_last (w ∷ xs) [] x lt = absurd (omega arith)
filled_last {X} (w ∷ xs) (y ∷ ys) x lt = ap (λ (zs : List (Option X)). or_other w y ∷ zs) (filled_last xs ys x (omega arith))

pub fill_some : {X : Type 0} (xs from ys : List (Option X)) (x : Option X) (n : ℕ) → from ≡ xs ++ x ∷ [] → n ≡ length xs → n < length ys → is_some x ≡ true → filled xs (set ys n x) ≡ filled from ys
fill_some {X} xs from ys x n e at lt some = sym (ap (λ (fs : List (Option X)). filled fs ys) e ∙ filled_last xs ys x (omega (arith, lt, at)) ∙ (λ i. filled xs (set ys (at' i) (own x some (at' i) i)))) where
  at' : length xs ≡ n
  at' = sym at

  own : (y : Option X) → is_some y ≡ true → (k : ℕ) → or_other y (get_or ys k None) ≡ y
  own None e k = absurd (false≢true e)
  own (Some y) e k = refl

pub fill_none : {X : Type 0} (xs from ys : List (Option X)) (x : Option X) (n : ℕ) → from ≡ xs ++ x ∷ [] → n ≡ length xs → n < length ys → is_some x ≡ false → filled xs ys ≡ filled from ys
fill_none {X} xs from ys x n e at lt none = sym (ap (λ (fs : List (Option X)). filled fs ys) e ∙ filled_last xs ys x (omega (arith, lt, at)) ∙ ap (filled xs) (kept x none)) where
  kept : (y : Option X) → is_some y ≡ false → set ys (length xs) (or_other y (get_or ys (length xs) None)) ≡ ys
  kept None e = set-get_or ys (length xs) None
  kept (Some y) e = absurd (false≢true (sym e))
