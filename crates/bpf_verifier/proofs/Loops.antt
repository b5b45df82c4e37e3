-- Loops over lists and over bytes, and what they find.
use Rattle.std.proofs.Common.{◌≡◌, ℕ, zero, suc, ◌+◌, ◌<◌, ◌≤◌, Bool, true, false, ◌&&◌, ◌||◌, List, length, get_or, take, refl, sym, ap, ◌∙◌, arith}
use Rattle.std.specs.List.{list_all}
use Rattle.std.proofs.lemmas.List.{take_all}
use Rattle.std.proofs.lemmas.List.Folds.{list_all_more, list_all_at}
use Rattle.bpf_model.specs.AbstractState.{all_initialized}
use Rattle.bpf_model.proofs.Memories.{initialized_each}

-- ---- tests of each element, in a loop

pub all_more : {X : Type 0} (p : X → Bool) (xs : List X) (i : ℕ) (d : X) (b : Bool) → i < length xs → list_all p (take i xs) ≡ true → b ≡ p (get_or xs i d) → b ≡ true → list_all p (take (i + 1) xs) ≡ true
all_more p xs i d b h before here is = list_all_more p xs i d h ∙ both _ _ before (sym here ∙ is) where
  both : (a b : Bool) → a ≡ true → b ≡ true → (a && b) ≡ true
  both true b e f = f
  both false b e f = e

pub all_done : {X : Type 0} (p : X → Bool) (xs : List X) (i : ℕ) → length xs ≤ i → list_all p (take i xs) ≡ true → true ≡ list_all p xs
all_done p xs i h all = sym (sym (ap (list_all p) (take_all i xs h)) ∙ all)

pub all_at : {X : Type 0} (p : X → Bool) (xs : List X) (i : ℕ) (d : X) → list_all p xs ≡ true → i < length xs → p (get_or xs i d) ≡ true
all_at p xs i d all h = test (p (get_or xs i d)) refl where
  test : (b : Bool) → p (get_or xs i d) ≡ b → p (get_or xs i d) ≡ true
  test true e = e
  test false e = absurd (let none = list_all_at p xs i d h e in cc)

pub any_step : (a w k : Bool) → (w || (a || k)) ≡ ((a || w) || k)
any_step true true k = refl
any_step true false k = refl
any_step false true k = refl
any_step false false k = refl

-- ---- bytes, each of them

pub all_true : (f : ℕ → Bool) (a n : ℕ) → ((k : ℕ) → a ≤ k → k < a + n → f k ≡ true) → all_initialized f a n ≡ true
all_true f a zero h = refl
all_true f a (suc n) h =
    both (f a) (all_initialized f (a + 1) n) (h a (omega arith) (omega arith)) (all_true f (a + 1) n (λ k p q. h k (omega arith) (omega arith))) where
      both : (b c : Bool) → b ≡ true → c ≡ true → (b && c) ≡ true
      both true c e f = f
      both false c e f = e

pub one_false : (f : ℕ → Bool) (a n k : ℕ) → a ≤ k → k < a + n → f k ≡ false → all_initialized f a n ≡ false
one_false f a n k low high e = test (all_initialized f a n) refl where
  test : (b : Bool) → all_initialized f a n ≡ b → all_initialized f a n ≡ false
  test false t = t
  test true t = let there = initialized_each f a n t k low high in absurd cc
