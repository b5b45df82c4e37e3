-- The first element that passes a test, taken out of a list.
use Rattle.std.proofs.Common.{◌≡◌, ℕ, zero, suc, ◌<◌, ◌≤◌, Bool, true, false, cond, ltb, not, List, [], ◌∷◌, ◌++◌, length, get_or, take, drop, find, Option, Some, None, refl, sym, ap, ◌∙◌, arith}
use Rattle.std.specs.Prelude.{position, is_some}
use Rattle.std.specs.List.{AllByRecursion, filter, position_or_len, remove}
use Rattle.std.proofs.lemmas.Bool.{false≢true, ltb-false}
use Rattle.std.proofs.lemmas.List.{take-append-drop}
use Rattle.std.proofs.lemmas.List.Folds.{find_at}
use Rattle.std.proofs.lemmas.List.Quantifiers.{position-Some}
use Rattle.std.proofs.lemmas.Option.{slice_get_past}
use Rattle.std.proofs.Math.Seq.{drop-cons}
use Rattle.std.specs.Prelude.{slice_get}

not_not : (b : Bool) → not b ≡ false → b ≡ true
not_not true is = refl
not_not false is = absurd (false≢true (sym is))

not_true : (b : Bool) → not b ≡ true → b ≡ false
not_true true is = absurd (false≢true is)
not_true false is = refl

some_none : {X : Type 0} (x : X) → Some x ≡ None → ⊥
some_none x is = false≢true (sym (ap is_some is))

module _ {X : Type 0} (early : X → Bool) where
  pub record IsFirst (xs : List X) (i : ℕ) (x : X) : Type 0 where
    pub splits : xs ≡ take i xs ++ x ∷ drop (suc i) xs
    pub before : AllByRecursion (λ e. early e ≡ true) (take i xs)
    pub here : early x ≡ false
    pub rest : remove xs i ≡ take i xs ++ drop (suc i) xs

  all_before : (xs : List X) (i : ℕ) (d : X) → ((k : ℕ) → k < i → not (early (get_or xs k d)) ≡ false) → i < length xs → AllByRecursion (λ e. early e ≡ true) (take i xs)
  all_before [] i d none below = absurd (omega (arith, below))
  all_before (x ∷ xs) zero d none below = tt
  all_before (x ∷ xs) (suc i) d none below =
      (not_not (early x) (none 0 (omega arith)), all_before xs i d (λ k less. none (suc k) (omega (arith, less))) (omega (arith, below)))

  pub first_at : (xs : List X) (i : ℕ) (x : X) → position (λ y. not (early y)) xs ≡ Some i → x ≡ get_or xs i x → IsFirst xs i x
  first_at xs i x at read =
      let found = position-Some (λ y. not (early y)) xs i x at in
      record {
        splits = sym (take-append-drop i xs) ∙ ap (λ ys. take i xs ++ ys) (drop-cons xs i x found.0 ∙ ap (λ y. y ∷ drop (suc i) xs) (sym read));
        before = all_before xs i x found.2 found.0;
        here = ap early read ∙ not_true (early (get_or xs i x)) found.1;
        rest = refl;
      }

  none_found : (xs : List X) → position (λ y. not (early y)) xs ≡ None → find (λ y. not (early y)) xs ≡ None
  none_found xs none = find_at (λ y. not (early y)) xs ∙ cases (ltb (position_or_len (λ y. not (early y)) xs) (length xs)) refl none where
    cases : (b : Bool) → ltb (position_or_len (λ y. not (early y)) xs) (length xs) ≡ b → cond b (Some (position_or_len (λ y. not (early y)) xs)) None ≡ None
        → slice_get xs (position_or_len (λ y. not (early y)) xs) ≡ None
    cases true e is = absurd (some_none (position_or_len (λ y. not (early y)) xs) is)
    cases false e is = slice_get_past xs (position_or_len (λ y. not (early y)) xs) (ltb-false _ _ e)

  none_in : (xs : List X) → find (λ y. not (early y)) xs ≡ None → AllByRecursion (λ e. early e ≡ true) xs
  none_in [] none = tt
  none_in (x ∷ xs) none = by (not (early x)) refl none (none_in xs) where
    by : (b : Bool) → not (early x) ≡ b → cond b (Some x) (find (λ y. not (early y)) xs) ≡ None
        → (find (λ y. not (early y)) xs ≡ None → AllByRecursion (λ e. early e ≡ true) xs) → AllByRecursion (λ e. early e ≡ true) (x ∷ xs)
    by true is found later = absurd (some_none x found)
    by false is found later = (not_not (early x) is, later found)

  pub all_early : (xs : List X) → position (λ y. not (early y)) xs ≡ None → AllByRecursion (λ e. early e ≡ true) xs
  all_early xs none = none_in xs (none_found xs none)

-- a filter leaves no more
pub fewer : {X : Type 0} (test : X → Bool) (xs : List X) → length (filter test xs) ≤ length xs
fewer test [] = omega arith
fewer test (x ∷ xs) = by (test x) (fewer test xs) where
  by : (b : Bool) → length (filter test xs) ≤ length xs → length (cond b (x ∷ filter test xs) (filter test xs)) ≤ length (x ∷ xs)
  by true less = omega (arith, less)
  by false less = omega (arith, less)
