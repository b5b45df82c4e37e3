-- The numbers of a document's steps.
use Rattle.std.proofs.Common.{◌≡◌, ◌≤◌, ℕ, ◌+◌, Bool, true, false, List, [], ◌∷◌, length, nat_lt, refl, arith, if◌then◌else◌}
use Rattle.toml.specs.declared.value.Value.{Value}
use Rattle.toml.specs.View.{items_view}
use Rattle.script_text.specs.Scripts.{count_in, next_step}

-- as many as there are values
pub counted : (vs : List Value) → count_in (items_view vs) ≡ length vs
counted [] = refl
counted (v ∷ vs) = omega (arith, counted vs)

pub next_within : (n : ℕ) → next_step n ≤ n + 1
next_within n = by (nat_lt n 4294967295) where
  by : (b : Bool) → (if b then n + 1 else n) ≤ n + 1
  by true = omega arith
  by false = omega arith
