-- An output, counted over all rows.
use Rattle.std.proofs.Common.{◌≡◌, ℕ, zero, suc, ◌+◌, ◌-◌, ◌<◌, ◌≤◌, List, [], ◌∷◌, ◌++◌, length, get_or, drop, refl, sym, ap, ◌∙◌, arith}
use Rattle.std.specs.Prelude.{slice_get, flat_map}
use Rattle.std.proofs.Math.Seq.{drop-cons}
use Rattle.replica_journal.specs.Facts.{RowFacts}
use Rattle.replica_journal.specs.Output.{Output}

front : {X : Type 0} (xs ys : List X) (n : ℕ) → n < length xs → slice_get (xs ++ ys) n ≡ slice_get xs n
front [] ys n h = absurd (omega arith)
front (x ∷ xs) ys zero h = refl
front (x ∷ xs) ys (suc n) h = front xs ys n (omega arith)

back : {X : Type 0} (xs ys : List X) (n m : ℕ) → n ≡ length xs + m → slice_get (xs ++ ys) n ≡ slice_get ys m
back [] ys n m e = ap (slice_get ys) (omega (arith, e))
back (x ∷ xs) ys zero m e = absurd (omega (arith, e))
back (x ∷ xs) ys (suc n) m e = back xs ys n m (omega (arith, e))

abbrev pub outputs_in : List RowFacts → List Output
outputs_in rows = flat_map (λ row. row.outputs) rows

pub in_row : (rows : List RowFacts) (i : ℕ) (d : RowFacts) (n : ℕ) → i < length rows → n < length (get_or rows i d).outputs
    → slice_get (outputs_in (drop i rows)) n ≡ slice_get (get_or rows i d).outputs n
in_row rows i d n below here =
    ap (λ (rs : List RowFacts). slice_get (outputs_in rs) n) (drop-cons rows i d below) ∙ front (get_or rows i d).outputs (outputs_in (drop (suc i) rows)) n here

one_more : (i : ℕ) → i + 1 ≡ suc i
one_more i = omega arith

pub past_row : (rows : List RowFacts) (i : ℕ) (d : RowFacts) (n : ℕ) → i < length rows → length (get_or rows i d).outputs ≤ n
    → slice_get (outputs_in (drop (i + 1) rows)) (n - length (get_or rows i d).outputs) ≡ slice_get (outputs_in (drop i rows)) n
past_row rows i d n below beyond =
    ap (λ (k : ℕ). slice_get (outputs_in (drop k rows)) (n - length (get_or rows i d).outputs)) (one_more i)
    ∙ sym (ap (λ (rs : List RowFacts). slice_get (outputs_in rs) n) (drop-cons rows i d below)
    ∙ back (get_or rows i d).outputs (outputs_in (drop (suc i) rows)) n (n - length (get_or rows i d).outputs) (omega (arith, beyond)))
