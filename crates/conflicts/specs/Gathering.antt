-- Internal: the pairs that are found so far.
use Rattle.std.specs.Prelude.{◌≡◌, ◌<◌, ℕ, List, ◌⊎◌, ◌↔◌}
use Rattle.std.specs.List.{Contains}
use Rattle.seal.specs.Opening.{CheckedMessage}
use Rattle.conflicts.specs.Claims.{IsConflict}

-- Pairs are added: the conflicts of the message at j with those before place n, and no others.
abbrev pub Grows : List CheckedMessage → ℕ → ℕ → List (ℕ × ℕ) → List (ℕ × ℕ) → Type 0
Grows ms j n old new =
    (i k : ℕ) → Contains new (i, k) ↔ (Contains old (i, k) ⊎ ((k ≡ j) × (i < n) × IsConflict ms i k))

-- The pairs are the conflicts of the messages before place n.
abbrev pub HasBelow : List CheckedMessage → ℕ → List (ℕ × ℕ) → Type 0
HasBelow ms n pairs = (i k : ℕ) → Contains pairs (i, k) ↔ ((k < n) × IsConflict ms i k)
