-- What is found for the items of a list, one after another.
use Rattle.std.proofs.Common.{◌≡◌, ℕ, ◌+◌, ◌<◌, ◌≤◌, List, [], ◌∷◌, ◌++◌, length, take, get_or, Option, Some, None, is_some, true, false, refl, sym, ap, ◌∙◌, arith}
use denote.Ref.{Bor}
use Rattle.std.specs.Prelude.{flat_map}
use Rattle.std.specs.Option.{option_copied}
use Rattle.std.specs.List.{filter_map, cons_option}
use Rattle.std.proofs.lemmas.List.{take_more, take_all, append-nil, length-append}
use Rattle.std.proofs.lemmas.List.Elements.{filter_map-append}
use Rattle.std.proofs.lemmas.Grind.{flat_map-append}

-- so many of the first i were found
pub record Counted {X Y : Type 0} (f : X → Option Y) (xs : List X) (i count : ℕ) : Type 0 where
  pub is : count ≡ length (filter_map f (take i xs))
  pub few : count ≤ i

more : {X Y : Type 0} (f : X → Option Y) (xs : List X) (i : ℕ) (d : X) → i < length xs → filter_map f (take (i + 1) xs) ≡ filter_map f (take i xs) ++ cons_option (f (get_or xs i d)) []
more f xs i d h = ap (filter_map f) (take_more xs i d h) ∙ filter_map-append f (take i xs) (get_or xs i d ∷ [])

pub more_found : {X Y : Type 0} (f : X → Option Y) (xs : List X) (i : ℕ) (d : X) (y : Y) → i < length xs → f (get_or xs i d) ≡ Some y
    → filter_map f (take (i + 1) xs) ≡ filter_map f (take i xs) ++ y ∷ []
more_found f xs i d y h e =
    more f xs i d h ∙ ap (λ (o : Option _). filter_map f (take i xs) ++ cons_option o []) e

pub more_missed : {X Y : Type 0} (f : X → Option Y) (xs : List X) (i : ℕ) (d : X) → i < length xs → f (get_or xs i d) ≡ None
    → filter_map f (take (i + 1) xs) ≡ filter_map f (take i xs)
more_missed f xs i d h e =
    more f xs i d h ∙ ap (λ (o : Option _). filter_map f (take i xs) ++ cons_option o []) e ∙ append-nil (filter_map f (take i xs))

pub counted_none : {X Y : Type 0} (f : X → Option Y) (xs : List X) → Counted f xs 0 0
counted_none f xs = record { is = refl; few = omega arith }

pub counted_found : {X Y : Type 0} (f : X → Option Y) (xs : List X) (i count : ℕ) (d : X) (y : Y) → i < length xs → f (get_or xs i d) ≡ Some y → Counted f xs i count → Counted f xs (i + 1) (count + 1)
counted_found f xs i count d y h e c = record {
  is = omega (arith, c.is, ap length (more_found f xs i d y h e), length-append (filter_map f (take i xs)) (y ∷ []));
  few = omega (arith, c.few);
}

pub counted_missed : {X Y : Type 0} (f : X → Option Y) (xs : List X) (i count : ℕ) (d : X) → i < length xs → f (get_or xs i d) ≡ None → Counted f xs i count → Counted f xs (i + 1) count
counted_missed f xs i count d h e c = record {
  is = c.is ∙ ap length (sym (more_missed f xs i d h e));
  few = omega (arith, c.few);
}

pub counted_all : {X Y : Type 0} (f : X → Option Y) (xs : List X) (i count : ℕ) → length xs ≤ i → Counted f xs i count → count ≡ length (filter_map f xs)
counted_all f xs i count h c = c.is ∙ ap (λ (ys : List _). length (filter_map f ys)) (take_all i xs h)

-- the pieces of what was found
pub pieces_found : {X Y : Type 0} (f : X → Option Y) (g : Y → List ℕ) (xs : List X) (i : ℕ) (d : X) (y : Y) → i < length xs → f (get_or xs i d) ≡ Some y
    → flat_map g (filter_map f (take (i + 1) xs)) ≡ flat_map g (filter_map f (take i xs)) ++ g y
pieces_found f g xs i d y h e =
    ap (flat_map g) (more_found f xs i d y h e) ∙ flat_map-append g (filter_map f (take i xs)) (y ∷ [])
    ∙ ap (λ (ys : List ℕ). flat_map g (filter_map f (take i xs)) ++ ys) (append-nil (g y))

pub counted_some : {X Y : Type 0} (f : X → Option Y) (xs : List X) (i count : ℕ) (d : X) (o : Option Y) → i < length xs → o ≡ f (get_or xs i d) → is_some o ≡ true → Counted f xs i count → Counted f xs (i + 1) (count + 1)
counted_some f xs i count d None h e some c = absurd (cc)
counted_some f xs i count d (Some y) h e some c = counted_found f xs i count d y h (sym e) c

pub counted_not : {X Y : Type 0} (f : X → Option Y) (xs : List X) (i count : ℕ) (d : X) (o : Option Y) → i < length xs → o ≡ f (get_or xs i d) → is_some o ≡ false → Counted f xs i count → Counted f xs (i + 1) count
counted_not f xs i count d None h e some c = counted_missed f xs i count d h (sym e) c
counted_not f xs i count d (Some y) h e some c = absurd (cc)

-- a copy is there where the reference is
pub copied : {X : Type 0} (o : Option (Bor X)) → is_some (option_copied o) ≡ is_some o
copied None = refl
copied (Some x) = refl
