-- Keys with leaves that are used.
use Rattle.std.proofs.Common.{◌≡◌, ℕ, zero, suc, ◌+◌, ◌<◌, ◌≤◌, Bool, true, false, List, Option, Some, None, refl, ap, subst, ◌⊎◌, inl, inr, arith}
use Rattle.std.specs.Prelude.{◌&&◌}
use Rattle.std.specs.List.{list_all, range_with_len}
use Rattle.std.proofs.lemmas.Bool.{cases_lt, leb-true}
use Rattle.std.proofs.lemmas.Option.{slice_get_past}
use Rattle.script_values.specs.declared.replica_keys.KeyLists.{KeyLists}
use Rattle.script_values.specs.KeyShapes.{can_be_spent, count_of, entry_at, given_or, has_leaves, leaves_of, shape_at}

both_first : (a b : Bool) → (a && b) ≡ true → a ≡ true
both_first true b h = refl
both_first false b h = absurd cc

both_second : (a b : Bool) → (a && b) ≡ true → b ≡ true
both_second true b h = h
both_second false b h = absurd cc

both : (a b : Bool) → a ≡ true → b ≡ true → (a && b) ≡ true
both true b g h = h
both false b g h = absurd cc

not_first : (a b : Bool) → a ≡ false → (a && b) ≡ false
not_first true b h = absurd cc
not_first false b h = refl

not_second : (a b : Bool) → b ≡ false → (a && b) ≡ false
not_second true b h = h
not_second false b h = refl

-- what holds of all of a range holds at each of its numbers
in_range : (p : ℕ → Bool) (first n k : ℕ) → list_all p (range_with_len first n) ≡ true → first ≤ k → k < first + n → p k ≡ true
in_range p first zero k h low high = absurd (omega arith)
in_range p first (suc n) k h low high =
    elim (cases_lt first k) [
      | inl lt ↦ in_range p (first + 1) n k (both_second (p first) (list_all p (range_with_len (first + 1) n)) h) (omega arith) (omega arith)
      | inr ge ↦ let same : first ≡ k = omega arith in subst (λ (i : ℕ). p i ≡ true) same (both_first (p first) (list_all p (range_with_len (first + 1) n)) h)
    ]

all_of_range : (p : ℕ → Bool) (first n : ℕ) → ((k : ℕ) → first ≤ k → k < first + n → p k ≡ true) → list_all p (range_with_len first n) ≡ true
all_of_range p first zero h = refl
all_of_range p first (suc n) h =
    both (p first) (list_all p (range_with_len (first + 1) n)) (h first (omega arith) (omega arith)) (all_of_range p (first + 1) n (λ k low high. h k (omega arith) (omega arith)))

not_of_range : (p : ℕ → Bool) (first n k : ℕ) → p k ≡ false → first ≤ k → k < first + n → list_all p (range_with_len first n) ≡ false
not_of_range p first zero k h low high = absurd (omega arith)
not_of_range p first (suc n) k h low high =
    elim (cases_lt first k) [
      | inl lt ↦ not_second (p first) (list_all p (range_with_len (first + 1) n)) (not_of_range p (first + 1) n k h (omega arith) (omega arith))
      | inr ge ↦ let same : k ≡ first = omega arith in not_first (p first) (list_all p (range_with_len (first + 1) n)) (subst (λ (i : ℕ). p i ≡ false) same h)
    ]

-- ---- the keys of a head

pub are_spent : (keys : KeyLists) → ((k : ℕ) → k < count_of keys.spent → has_leaves (shape_at keys k) ≡ true) → can_be_spent keys ≡ true
are_spent keys h = all_of_range (λ id. has_leaves (shape_at keys id)) 0 (count_of keys.spent) (λ k low high. h k (omega arith))

pub is_overspent : (keys : KeyLists) (k : ℕ) → k < count_of keys.spent → has_leaves (shape_at keys k) ≡ false → can_be_spent keys ≡ false
is_overspent keys k high h = not_of_range (λ id. has_leaves (shape_at keys id)) 0 (count_of keys.spent) k h (omega arith) (omega arith)

pub spendable : (keys : KeyLists) (id : ℕ) → can_be_spent keys ≡ true → (shape_at keys id).spent ≤ leaves_of (shape_at keys id)
spendable keys id h = by (cases_lt id (count_of keys.spent)) where
  by : (id < count_of keys.spent) ⊎ (count_of keys.spent ≤ id) → (shape_at keys id).spent ≤ leaves_of (shape_at keys id)
  by (inl lt) = leb-true _ _ (in_range (λ id. has_leaves (shape_at keys id)) 0 (count_of keys.spent) id h (omega arith) (omega arith))
  by (inr ge) = let none : (shape_at keys id).spent ≡ 0 = past keys.spent ge in omega arith where
    past : (spent : Option (List ℕ)) → count_of spent ≤ id → entry_at spent id 0 ≡ 0
    past None ge = refl
    past (Some xs) ge = ap (λ (x : Option ℕ). given_or x 0) (slice_get_past xs id ge)
