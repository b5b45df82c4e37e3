-- Counts and what is gathered, from one replica to the next.
use Rattle.std.proofs.Common.{◌≡◌, ℕ, ◌+◌, ◌<◌, ◌≤◌, sym, ◌∙◌, arith, ◌⊎◌, inl, inr}
use Rattle.std.specs.Prelude.{nat_lt, nat_le}
use Rattle.std.proofs.lemmas.Bool.{cases_lt, lt-ltb, le-ltb, le-leb, lt-leb}

pub more_than : (m n : ℕ) → nat_lt m n ≡ nat_le (m + 1) n
more_than m n = cases (cases_lt m n) where
  cases : (m < n) ⊎ (n ≤ m) → nat_lt m n ≡ nat_le (m + 1) n
  cases (inl lt) = lt-ltb m n lt ∙ sym (le-leb (m + 1) n (omega (arith, lt)))
  cases (inr le) = le-ltb m n le ∙ sym (lt-leb (m + 1) n (omega (arith, le)))
