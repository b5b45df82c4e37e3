-- What is taken again gives the same rows.
use Rattle.std.proofs.Common.{◌≡◌, ℕ, List, [], ◌∷◌, ◌++◌, refl, sym, ap, subst, ◌∙◌}
use Rattle.std.proofs.lemmas.List.{append-nil}
use Rattle.pbft_model.specs.Setup.{Setup}
use Rattle.pbft_model.specs.Core.{Core}
use Rattle.pbft_model.specs.Rows.{Row, Input, IsLawfulFrom}
use Rattle.pbft_model.proofs.Unique.{one_row}
use Rattle.journal_laws.specs.Replay.{GoesOn, inputs_of}

same_head : {X : Type 0} (x y : X) (xs ys : List X) → x ∷ xs ≡ y ∷ ys → x ≡ y
same_head x y xs ys e = cc

same_tail : {X : Type 0} (x y : X) (xs ys : List X) → x ∷ xs ≡ y ∷ ys → xs ≡ ys
same_tail x y xs ys e = cc

nothing_first : {X : Type 0} {P : Type 0} (x : X) (xs : List X) → [] ≡ x ∷ xs → P
nothing_first x xs e = absurd cc

module _ (c : Setup) (me : ℕ) where
  pub goes_on : (rows all : List Row) (more : List Input) (s t last : Core) → IsLawfulFrom c me s rows t → IsLawfulFrom c me s all last → inputs_of all ≡ inputs_of rows ++ more
      → GoesOn c me rows t all last more
  goes_on [] all more s t last same lawful is =
      record { rest = all; splits = refl; takes = is; lawful = subst (λ (x : Core). IsLawfulFrom c me x all last) (sym same) lawful }
  goes_on (row ∷ rows) [] more s t last w lawful is = nothing_first row.input (inputs_of rows ++ more) is
  goes_on (row ∷ rows) (row' ∷ all) more s t last (u, next, w) (u', next', lawful) is =
      let one = one_row c me s u' u row' row (same_head row'.input row.input (inputs_of all) (inputs_of rows ++ more) is) next' next in
      let w = goes_on rows all more u t last w (subst (λ (x : Core). IsLawfulFrom c me x all last) one.1 lawful)
      (same_tail row'.input row.input (inputs_of all) (inputs_of rows ++ more) is) in
      record { rest = w.rest; splits = λ i. one.0 i ∷ w.splits i; takes = w.takes; lawful = w.lawful }

  none_taken : (rest : List Row) → inputs_of rest ≡ [] → rest ≡ []
  none_taken [] e = refl
  none_taken (row ∷ rest) e = nothing_first row.input (inputs_of rest) (sym e)

  pub the_same : (rows again : List Row) (s t u : Core) → IsLawfulFrom c me s rows t → IsLawfulFrom c me s again u → inputs_of again ≡ inputs_of rows → (again ≡ rows) × (u ≡ t)
  the_same rows again s t u w v is =
      let g = goes_on rows again [] s t u w v (is ∙ sym (append-nil (inputs_of rows))) in
      let none = none_taken g.rest g.takes in
      (g.splits ∙ (ap (λ (xs : List Row). rows ++ xs) none ∙ append-nil rows), subst (λ (xs : List Row). IsLawfulFrom c me t xs u) none g.lawful)
