-- Lists after a map.
use Rattle.std.proofs.Common.{◌≡◌, ℕ, Bool, true, false, cond, ◌||◌, List, [], ◌∷◌, ◌++◌, map, filter, find, fold, Some, None, refl, sym, ap, subst, arith}
use Rattle.std.specs.Prelude.{max}
use Rattle.std.specs.List.{AllByRecursion, list_any}
use Rattle.std.specs.Option.{option_map}
use Rattle.pbft_model.specs.Validity.{greatest_of}

pub any_mapped : {X Y : Type 0} (p : Y → Bool) (f : X → Y) (xs : List X) → list_any p (map f xs) ≡ list_any (λ x. p (f x)) xs
any_mapped p f [] = refl
any_mapped p f (x ∷ xs) = ap (λ b. p (f x) || b) (any_mapped p f xs)

pub filter_mapped : {X Y : Type 0} (p : Y → Bool) (f : X → Y) (xs : List X) → filter p (map f xs) ≡ map f (filter (λ x. p (f x)) xs)
filter_mapped p f [] = refl
filter_mapped {X} {Y} p f (x ∷ xs) = cases (p (f x)) (filter_mapped p f xs) where
  cases : (b : Bool) → filter p (map f xs) ≡ map f (filter (λ x. p (f x)) xs) → cond b (f x ∷ filter p (map f xs)) (filter p (map f xs)) ≡ map f (cond b (x ∷ filter (λ x. p (f x)) xs) (filter (λ x. p (f x)) xs))
  cases true e = ap (λ (ys : List Y). f x ∷ ys) e
  cases false e = e

pub map_mapped : {X Y Z : Type 0} (g : Y → Z) (f : X → Y) (xs : List X) → map g (map f xs) ≡ map (λ x. g (f x)) xs
map_mapped g f [] = refl
map_mapped {X} {Y} {Z} g f (x ∷ xs) = ap (λ (zs : List Z). g (f x) ∷ zs) (map_mapped g f xs)

-- the greatest number by a fold
pub greatest_folded : {X : Type 0} (f : X → ℕ) (xs : List X) (n : ℕ) → fold (λ m x. max m (f x)) n xs ≡ max n (greatest_of (map f xs))
greatest_folded f [] n = omega arith
greatest_folded f (x ∷ xs) n = omega (arith, greatest_folded f xs (max n (f x)))

pub map_append : {X Y : Type 0} (f : X → Y) (xs : List X) (x : X) → map f (xs ++ x ∷ []) ≡ map f xs ++ f x ∷ []
map_append f [] x = refl
map_append {X} {Y} f (y ∷ xs) x = ap (λ (zs : List Y). f y ∷ zs) (map_append f xs x)

-- two tests that agree on each element
pub filter_alike : {X : Type 0} (p q : X → Bool) (xs : List X) → AllByRecursion (λ x. p x ≡ q x) xs → filter p xs ≡ filter q xs
filter_alike p q [] all = refl
filter_alike {X} p q (x ∷ xs) all = λ i. cond (all.0 i) (x ∷ filter_alike p q xs all.1 i) (filter_alike p q xs all.1 i)

pub any_alike : {X : Type 0} (p q : X → Bool) (xs : List X) → AllByRecursion (λ x. p x ≡ q x) xs → list_any p xs ≡ list_any q xs
any_alike p q [] all = refl
any_alike p q (x ∷ xs) all = λ i. all.0 i || any_alike p q xs all.1 i

pub all_implied : {X : Type 0} (P Q : X → Type 0) (xs : List X) → ((x : X) → P x → Q x) → AllByRecursion P xs → AllByRecursion Q xs
all_implied P Q [] h all = tt
all_implied P Q (x ∷ xs) h all = (h x all.0, all_implied P Q xs h all.1)

pub find_mapped : {X Y : Type 0} (p : Y → Bool) (f : X → Y) (xs : List X) → find p (map f xs) ≡ option_map f (find (λ x. p (f x)) xs)
find_mapped p f [] = refl
find_mapped {X} {Y} p f (x ∷ xs) = cases (p (f x)) (find_mapped p f xs) where
  cases : (b : Bool) → find p (map f xs) ≡ option_map f (find (λ x. p (f x)) xs) → cond b (Some (f x)) (find p (map f xs)) ≡ option_map f (cond b (Some x) (find (λ x. p (f x)) xs))
  cases true e = refl
  cases false e = e

pub find_alike : {X : Type 0} (p q : X → Bool) (xs : List X) → AllByRecursion (λ x. p x ≡ q x) xs → find p xs ≡ find q xs
find_alike p q [] all = refl
find_alike {X} p q (x ∷ xs) all = λ i. cond (all.0 i) (Some x) (find_alike p q xs all.1 i)

-- what holds of the element that is found
pub find_in : {X : Type 0} (P : X → Type 0) (p : X → Bool) (xs : List X) (x : X) → AllByRecursion P xs → Some x ≡ find p xs → P x
find_in P p [] x all is = absurd (some_none is) where
  some_none : Some x ≡ None → ⊥
  some_none e = absurd cc
find_in {X} P p (y ∷ xs) x all is = cases (p y) is (find_in P p xs x all.1) where
  cases : (b : Bool) → Some x ≡ cond b (Some y) (find p xs) → (Some x ≡ find p xs → P x) → P x
  cases true found rest = subst P (sym (same_one found)) all.0 where
    same_one : Some x ≡ Some y → x ≡ y
    same_one h = cc
  cases false found rest = rest found

pub all_append : {X : Type 0} (P : X → Type 0) (xs : List X) (x : X) → AllByRecursion P xs → P x → AllByRecursion P (xs ++ x ∷ [])
all_append P [] x all here = (here, tt)
all_append P (y ∷ xs) x all here = (all.0, all_append P xs x all.1 here)
