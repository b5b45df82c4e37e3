-- One line more of a text whose lines are added in turn.
use Rattle.std.proofs.Common.{◌≡◌, ℕ, ◌<◌, ◌≤◌, ◌+◌, List, [], ◌∷◌, length, drop, get_or, Ok, Err, Result, Bor, ap, ◌∙◌, refl, add-one, suc, zero, arith}
use Rattle.std.proofs.Math.Seq.{drop-cons}
use Rattle.code_commands.specs.Folds.{behind, folded, texts}

text_at : (xs : List (Bor (List ℕ))) (i : ℕ) (d : Bor (List ℕ)) → i < length xs → texts (drop i xs) ≡ (get_or xs i d).now ∷ texts (drop (i + 1) xs)
text_at xs i d l = rw add-one (ap texts (drop-cons xs i d l))

nothing_left : {X : Type 0} (n : ℕ) (xs : List X) → length xs ≤ n → drop n xs ≡ []
nothing_left zero [] h = refl
nothing_left zero (x ∷ xs) h = absurd (omega arith)
nothing_left (suc n) [] h = refl
nothing_left (suc n) (x ∷ xs) h = nothing_left n xs (omega arith)

pub fold_more : {S K : Type 0} (add : S → List ℕ → Result S K) (s t : S) (at i : ℕ) (xs : List (Bor (List ℕ))) (d : Bor (List ℕ)) → i < length xs → add s (get_or xs i d).now ≡ Ok t → folded add s at (texts (drop i xs)) ≡ folded add t (at + 1) (texts (drop (i + 1) xs))
fold_more {S} {K} add s t at i xs d l h =
    ap (folded add s at) (text_at xs i d l)
    ∙ ap (λ (r : Result S K). behind at r (λ more. folded add more (at + 1) (texts (drop (i + 1) xs)))) h

pub fold_fails : {S K : Type 0} (add : S → List ℕ → Result S K) (s : S) (kind : K) (at i : ℕ) (xs : List (Bor (List ℕ))) (d : Bor (List ℕ)) → i < length xs → add s (get_or xs i d).now ≡ Err kind → folded add s at (texts (drop i xs)) ≡ Err (kind, at)
fold_fails {S} {K} add s kind at i xs d l h =
    ap (folded add s at) (text_at xs i d l)
    ∙ ap (λ (r : Result S K). behind at r (λ more. folded add more (at + 1) (texts (drop (i + 1) xs)))) h

pub fold_ends : {S K : Type 0} (add : S → List ℕ → Result S K) (s : S) (at i : ℕ) (xs : List (Bor (List ℕ))) → length xs ≤ i → folded add s at (texts (drop i xs)) ≡ Ok s
fold_ends add s at i xs l = ap (λ (ys : List (Bor (List ℕ))). folded add s at (texts ys)) (nothing_left i xs l)
