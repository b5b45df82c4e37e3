-- One more element of a list that a loop goes over, in the words of the contracts.
use Rattle.std.proofs.Common.{◌≡◌, ℕ, ◌<◌, ◌+◌, Bool, true, false, cond, ◌&&◌, List, length, drop, get_or, find, Some, ap, ◌∙◌, add-one, suc}
use Rattle.std.proofs.Math.Seq.{drop-cons}
use Rattle.std.specs.List.{list_all}

pub find_no : {X : Type 0} (p : X → Bool) (xs : List X) (i : ℕ) (d : X) → i < length xs → p (get_or xs i d) ≡ false → find p (drop i xs) ≡ find p (drop (i + 1) xs)
find_no {X} p xs i d l h =
    rw add-one
    (ap (λ (ys : List X). find p ys) (drop-cons xs i d l)
    ∙ ap (λ (b : Bool). cond b (Some (get_or xs i d)) (find p (drop (suc i) xs))) h)

pub find_yes : {X : Type 0} (p : X → Bool) (xs : List X) (i : ℕ) (d : X) → i < length xs → p (get_or xs i d) ≡ true → find p (drop i xs) ≡ Some (get_or xs i d)
find_yes {X} p xs i d l h =
    ap (λ (ys : List X). find p ys) (drop-cons xs i d l)
    ∙ ap (λ (b : Bool). cond b (Some (get_or xs i d)) (find p (drop (suc i) xs))) h

pub all_yes : {X : Type 0} (p : X → Bool) (xs : List X) (i : ℕ) (d : X) → i < length xs → p (get_or xs i d) ≡ true → list_all p (drop i xs) ≡ list_all p (drop (i + 1) xs)
all_yes {X} p xs i d l h =
    rw add-one
    (ap (λ (ys : List X). list_all p ys) (drop-cons xs i d l)
    ∙ ap (λ (b : Bool). b && list_all p (drop (suc i) xs)) h)

pub all_no : {X : Type 0} (p : X → Bool) (xs : List X) (i : ℕ) (d : X) → i < length xs → p (get_or xs i d) ≡ false → list_all p (drop i xs) ≡ false
all_no {X} p xs i d l h =
    ap (λ (ys : List X). list_all p ys) (drop-cons xs i d l)
    ∙ ap (λ (b : Bool). b && list_all p (drop (suc i) xs)) h

pub ruleset stepping = (find_no, find_yes, all_yes, all_no)
