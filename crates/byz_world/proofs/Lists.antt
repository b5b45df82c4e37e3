-- Lists that grow at their end.
use Rattle.std.proofs.Common.{◌≡◌, ℕ, suc, ◌+◌, ◌<◌, List, [], ◌∷◌, ◌++◌, length, map, take, drop, get_or, sym, ap, ◌∙◌}
use Rattle.std.specs.List.{AllByRecursion}
use Rattle.std.proofs.lemmas.List.{append_assoc, map-append, take-append-drop, take_more}
use Rattle.std.proofs.Math.Seq.{drop-cons}

pub AllByRecursion-append : {X : Type 0} (P : X → Type 0) (xs : List X) (x : X) → AllByRecursion P xs → P x → AllByRecursion P (xs ++ x ∷ [])
AllByRecursion-append P [] x all here = (here, tt)
AllByRecursion-append P (y ∷ xs) x all here = (all.0, AllByRecursion-append P xs x all.1 here)

pub AllByRecursion-follows : {X : Type 0} (P Q : X → Type 0) (xs : List X) → ((x : X) → P x → Q x) → AllByRecursion P xs → AllByRecursion Q xs
AllByRecursion-follows P Q [] f all = tt
AllByRecursion-follows P Q (x ∷ xs) f all = (f x all.0, AllByRecursion-follows P Q xs f all.1)

-- the elements up to an index, that at the index, and those behind it
pub split_at : {X Y : Type 0} (f : X → Y) (front : List Y) (xs : List X) (i : ℕ) (d : X) → i < length xs → (front ++ map f (take i xs)) ++ f (get_or xs i d) ∷ map f (drop (suc i) xs) ≡ front ++ map f xs
split_at {X} f front xs i d below =
    append_assoc front (map f (take i xs)) (f (get_or xs i d) ∷ map f (drop (suc i) xs))
    ∙ ap (λ ys. front ++ ys) (sym (map-append f (take i xs) (get_or xs i d ∷ drop (suc i) xs)) ∙ ap (map f) (ap (λ (ys : List X). take i xs ++ ys) (sym (drop-cons xs i d below)) ∙ take-append-drop i xs))

-- one element more
pub one_more : {X Y : Type 0} (f : X → Y) (front : List Y) (xs : List X) (i : ℕ) (d : X) → i < length xs → (front ++ map f (take i xs)) ++ f (get_or xs i d) ∷ [] ≡ front ++ map f (take (i + 1) xs)
one_more {X} f front xs i d below =
    append_assoc front (map f (take i xs)) (f (get_or xs i d) ∷ [])
    ∙ ap (λ ys. front ++ ys) (sym (map-append f (take i xs) (get_or xs i d ∷ [])) ∙ ap (map f) (sym (take_more xs i d below)))
