-- The values of a table after a change of it.
use Rattle.std.proofs.Common.{◌≡◌, Bool, true, false, cond, List, [], ◌∷◌, ◌++◌, inl, inr, ◌⊎◌}
use Rattle.std.specs.Ordering.{nat_cmp}
use Rattle.std.specs.Cmp.Lexicographic.{slice_cmp}
use Rattle.std.specs.declared.cmp.Ordering.{Ordering}
use Rattle.std.specs.declared.cmp.Ordering.TheVariants.{Less, Equal, Greater}
use Rattle.std.specs.FinMap.Entries.{by_order}
use Rattle.pbft_model.specs.Tables.{Key, Table, with_entry, keep, entries_in}
use Rattle.pbft_model.specs.Histories.{IsIn}

pub from_entry : {X : Type 0} (t : Table X) (k : Key) (x y : X) → IsIn y (entries_in (with_entry t k x)) → (y ≡ x) ⊎ IsIn y (entries_in t)
from_entry [] k x y (inl same) = inl same
from_entry [] k x y (inr none) = absurd none
from_entry {X} (e ∷ t) k x y h = cases (slice_cmp nat_cmp k e.0) h (from_entry t k x y) where
  cases : (o : Ordering) → IsIn y (entries_in (by_order o ((k, x) ∷ e ∷ t) ((e.0, x) ∷ t) (e ∷ with_entry t k x))) → (IsIn y (entries_in (with_entry t k x)) → (y ≡ x) ⊎ IsIn y (entries_in t))
      → (y ≡ x) ⊎ IsIn y (entries_in (e ∷ t))
  cases Less (inl same) rest = inl same
  cases Less (inr old) rest = inr old
  cases Equal (inl same) rest = inl same
  cases Equal (inr old) rest = inr (inr old)
  cases Greater (inl same) rest = inr (inl same)
  cases Greater (inr later) rest = elim (rest later) [ inl same ↦ inl same | inr old ↦ inr (inr old) ]

pub from_keep : {X : Type 0} (test : Key → Bool) (t : Table X) (y : X) → IsIn y (entries_in (keep test t)) → IsIn y (entries_in t)
from_keep test [] y h = absurd h
from_keep {X} test (e ∷ t) y h = cases (test e.0) h (from_keep test t y) where
  cases : (b : Bool) → IsIn y (entries_in (cond b (e ∷ keep test t) (keep test t))) → (IsIn y (entries_in (keep test t)) → IsIn y (entries_in t)) → IsIn y (entries_in (e ∷ t))
  cases true (inl same) rest = inl same
  cases true (inr later) rest = inr (rest later)
  cases false later rest = inr (rest later)

pub from_append : {X : Type 0} (x : X) (xs ys : List X) → IsIn x (xs ++ ys) → IsIn x xs ⊎ IsIn x ys
from_append x [] ys h = inr h
from_append x (y ∷ xs) ys (inl same) = inl (inl same)
from_append x (y ∷ xs) ys (inr later) = elim (from_append x xs ys later) [ inl here ↦ inl (inr here) | inr there ↦ inr there ]
