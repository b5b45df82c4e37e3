-- The first place that misses something, of one thing and of what stands at a place.
use Rattle.std.proofs.Common.{◌≡◌, ℕ, List, Option, Some, None, sym, subst, ◌∙◌}
use Rattle.std.specs.Prelude.{slice_get}
use Rattle.std.proofs.lemmas.Option.{same_Some}
use Rattle.drained_records.specs.Coming.{At, SomeAt}
use Rattle.drained_records.specs.Finding.{IsFirstOne, IsFirstPair, IsFirstTriple}

-- what holds of the one that stands at a place
pub at_one : {X : Type 0} (xs : List X) (place : ℕ) (x : X) (is : X → Type 0) → slice_get xs place ≡ Some x → is x → At xs place is
at_one {X} xs place x is e h y e' = subst is (same_Some x y (sym e ∙ e')) h

pub first_one : {X : Type 0} (xs : List X) (place : ℕ) (x : X) (came misses : X → ℕ → Type 0) (r : Option ℕ) → slice_get xs place ≡ Some x
    → IsFirstOne (came x) (misses x) r → IsFirstOne (λ i. At xs place (λ y. came y i)) (λ i. SomeAt xs place (λ y. misses y i)) r
first_one xs place x came misses None e h = λ i. at_one xs place x (λ y. came y i) e (h i)
first_one xs place x came misses (Some a) e h = ((x, e, h.0), λ i below. at_one xs place x (λ y. came y i) e (h.1 i below))

pub first_pair : {X : Type 0} (xs : List X) (place : ℕ) (x : X) (came misses : X → ℕ → ℕ → Type 0) (r : Option (ℕ × ℕ))
    → slice_get xs place ≡ Some x → IsFirstPair (came x) (misses x) r
    → IsFirstPair (λ i k. At xs place (λ y. came y i k)) (λ i k. SomeAt xs place (λ y. misses y i k)) r
first_pair xs place x came misses None e h = λ i k. at_one xs place x (λ y. came y i k) e (h i k)
first_pair xs place x came misses (Some a) e h = (
  (x, e, h.0),
  λ i k below. at_one xs place x (λ y. came y i k) e (h.1 i k below),
  λ k below. at_one xs place x (λ y. came y a.0 k) e (h.2 k below),
)

pub first_triple : {X : Type 0} (xs : List X) (place : ℕ) (x : X) (came misses : X → ℕ → ℕ → ℕ → Type 0) (r : Option (ℕ × ℕ × ℕ))
    → slice_get xs place ≡ Some x → IsFirstTriple (came x) (misses x) r
    → IsFirstTriple (λ i k l. At xs place (λ y. came y i k l)) (λ i k l. SomeAt xs place (λ y. misses y i k l)) r
first_triple xs place x came misses None e h = λ i k l. at_one xs place x (λ y. came y i k l) e (h i k l)
first_triple xs place x came misses (Some a) e h = (
  (x, e, h.0),
  λ i k l below. at_one xs place x (λ y. came y i k l) e (h.1 i k l below),
  λ k l below. at_one xs place x (λ y. came y a.0 k l) e (h.2 k l below),
  λ l below. at_one xs place x (λ y. came y a.0 a.1 l) e (h.3 l below),
)
