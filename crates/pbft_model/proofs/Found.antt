-- What is found in a table after a change of it, and in lists.
use Rattle.std.proofs.Common.{◌≡◌, ℕ, zero, suc, Bool, true, false, cond, List, [], ◌∷◌, ◌++◌, map, take, Option, Some, None, refl, sym, ap, subst, ◌∙◌, inl, inr, ◌⊎◌}
use Rattle.std.specs.Prelude.{is_some}
use Rattle.std.specs.List.{list_any, list_all, filter_map, flat_map, cons_option}
use Rattle.std.specs.Ordering.{nat_cmp, eq_by_cmp}
use Rattle.std.specs.declared.cmp.Ordering.TheVariants.{Equal}
use Rattle.std.specs.Cmp.Lexicographic.{slice_cmp, nat_list_cmp_total}
use Rattle.std.specs.FinMap.{slice_cmp-IsAntisymmetric, nat_cmp-IsAntisymmetric}
use Rattle.std.specs.FinMap.Entries.{find-put, find-where_key}
use Rattle.std.proofs.lemmas.Bool.{true≢false, false≢true, and_parts, or_cases, cond-true, cond-false}
use Rattle.std.proofs.lemmas.Slice.Eq.{bytes_eq-Decides}
use Rattle.std.proofs.lemmas.Map.Text.{is_eq-slice_cmp}
use Rattle.std.proofs.lemmas.Option.{same_Some}
use Rattle.pbft_model.specs.Tables.{Key, Table, at, with_entry, add_if, keep}
use Rattle.pbft_model.specs.Setup.{gathered, numbers_from}
use Rattle.pbft_model.specs.Histories.{IsIn}
use Rattle.pbft_model.specs.Core.{if_passes}

pub no_some : {X : Type 0} {P : Type 0} (x : X) → None ≡ Some x → P
no_some x e = absurd cc

abbrev ties : Key → Key → Bool
ties q k = eq_by_cmp (slice_cmp nat_cmp) q k

key_is : (q k : Key) → ties q k ≡ true → q ≡ k
key_is q k t = (bytes_eq-Decides q k).0 (sym (is_eq-slice_cmp q k) ∙ t)

key_ties : (k : Key) → ties k k ≡ true
key_ties k = is_eq-slice_cmp k k ∙ (bytes_eq-Decides k k).1 refl

pub at-with_entry : {X : Type 0} (t : Table X) (k q : Key) (x : X) → at (with_entry t k x) q ≡ cond (ties q k) (Some x) (at t q)
at-with_entry t k q x = find-put (slice_cmp nat_cmp) nat_list_cmp_total q k x t

pub found_entry : {X : Type 0} (t : Table X) (k q : Key) (x y : X) → at (with_entry t k x) q ≡ Some y → ((q ≡ k) × (x ≡ y)) ⊎ (at t q ≡ Some y)
found_entry {X} t k q x y e = cases (ties q k) refl (sym (at-with_entry t k q x) ∙ e) where
  cases : (b : Bool) → ties q k ≡ b → cond b (Some x) (at t q) ≡ Some y → ((q ≡ k) × (x ≡ y)) ⊎ (at t q ≡ Some y)
  cases true t e = inl (key_is q k t, same_Some _ _ e)
  cases false t e = inr e

pub same_entry : {X : Type 0} (t : Table X) (k : Key) (x : X) → at (with_entry t k x) k ≡ Some x
same_entry t k x = at-with_entry t k k x ∙ cond-true _ _ _ (key_ties k)

-- another key's value stays
pub other_entry : {X : Type 0} (t : Table X) (k q : Key) (x : X) → (q ≡ k → ⊥) → at (with_entry t k x) q ≡ at t q
other_entry {X} t k q x other = cases (ties q k) refl where
  cases : (b : Bool) → ties q k ≡ b → at (with_entry t k x) q ≡ at t q
  cases true e = absurd (other (key_is q k e))
  cases false e = at-with_entry t k q x ∙ cond-false _ _ _ e

pub found_add : {X : Type 0} (b : Bool) (t : Table X) (k q : Key) (x y : X) → at (add_if b k x t) q ≡ Some y → ((q ≡ k) × (x ≡ y) × (b ≡ true)) ⊎ (at t q ≡ Some y)
found_add {X} true t k q x y e = cases (is_some (at t k)) e where
  cases : (s : Bool) → at (cond s t (with_entry t k x)) q ≡ Some y → ((q ≡ k) × (x ≡ y) × (true ≡ true)) ⊎ (at t q ≡ Some y)
  cases true e = inr e
  cases false e = elim (found_entry t k q x y e) [ inl w ↦ inl (w.0, w.1, refl) | inr w ↦ inr w ]
found_add false t k q x y e = inr e

pub kept_add : {X : Type 0} (b : Bool) (t : Table X) (k q : Key) (x y : X) → at t q ≡ Some y → at (add_if b k x t) q ≡ Some y
kept_add {X} true t k q x y e = cases (is_some (at t k)) refl where
  cases : (s : Bool) → is_some (at t k) ≡ s → at (cond s t (with_entry t k x)) q ≡ Some y
  cases true f = e
  cases false f = other_entry t k q x (λ same. absurd (true≢false (sym (ap is_some (subst (λ (z : Key). at t z ≡ Some y) same e)) ∙ f))) ∙ e
kept_add false t k q x y e = e

-- what is at the key of a value that was admitted
pub at_added : {X : Type 0} (t : Table X) (k : Key) (x : X) → (y : X) × (at (add_if true k x t) k ≡ Some y) × ((y ≡ x) ⊎ (at t k ≡ Some y))
at_added {X} t k x = cases (at t k) refl where
  cases : (o : Option X) → at t k ≡ o → (y : X) × (at (add_if true k x t) k ≡ Some y) × ((y ≡ x) ⊎ (at t k ≡ Some y))
  cases None e = (x, subst (λ (o : Option X). at (cond (is_some o) t (with_entry t k x)) k ≡ Some x) (sym e) (same_entry t k x), inl refl)
  cases (Some y) e = (y, subst (λ (o : Option X). at (cond (is_some o) t (with_entry t k x)) k ≡ Some y) (sym e) e, inr e)

alike : (test : Key → Bool) (q x : Key) → slice_cmp nat_cmp q x ≡ Equal → test x ≡ test q
alike test q x e = ap test (sym (slice_cmp-IsAntisymmetric nat_cmp-IsAntisymmetric q x e))

pub at-keep : {X : Type 0} (test : Key → Bool) (t : Table X) (q : Key) → at (keep test t) q ≡ cond (test q) (at t q) None
at-keep test t q = find-where_key (slice_cmp nat_cmp) test q (alike test q) t

pub kept_keep : {X : Type 0} (test : Key → Bool) (t : Table X) (q : Key) (y : X) → test q ≡ true → at t q ≡ Some y → at (keep test t) q ≡ Some y
kept_keep test t q y h e = at-keep test t q ∙ cond-true _ _ _ h ∙ e

pub found_keep : {X : Type 0} (test : Key → Bool) (t : Table X) (q : Key) (y : X) → at (keep test t) q ≡ Some y → (test q ≡ true) × (at t q ≡ Some y)
found_keep {X} test t q y e = cases (test q) refl (sym (at-keep test t q) ∙ e) where
  cases : (b : Bool) → test q ≡ b → cond b (at t q) None ≡ Some y → (test q ≡ true) × (at t q ≡ Some y)
  cases true h e = (h, e)
  cases false h e = no_some y e

-- ---- options and lists

pub passed : {X : Type 0} (test : X → Bool) (o : Option X) (x : X) → if_passes test o ≡ Some x → (o ≡ Some x) × (test x ≡ true)
passed test None x e = no_some x e
passed {X} test (Some y) x e = cases (test y) refl e where
  cases : (b : Bool) → test y ≡ b → cond b (Some y) None ≡ Some x → (Some y ≡ Some x) × (test x ≡ true)
  cases true t e = (e, subst (λ (z : X). test z ≡ true) (same_Some _ _ e) t)
  cases false t e = no_some x e

pub passes : {X : Type 0} (test : X → Bool) (o : Option X) (x : X) → o ≡ Some x → test x ≡ true → if_passes test o ≡ Some x
passes {X} test o x e t = subst (λ (o : Option X). if_passes test o ≡ Some x) (sym e) (cond-true _ _ _ t)

pub in_any : {X : Type 0} (test : X → Bool) (xs : List X) → list_any test xs ≡ true → (x : X) × IsIn x xs × (test x ≡ true)
in_any test [] e = absurd (false≢true e)
in_any test (x ∷ xs) e = elim (or_cases (test x) (list_any test xs) e) [
  | inl t ↦ (x, inl refl, t)
  | inr t ↦ let w = in_any test xs t in (w.0, inr w.1, w.2)
]

pub in_all : {X : Type 0} (test : X → Bool) (xs : List X) → list_all test xs ≡ true → (x : X) → IsIn x xs → test x ≡ true
in_all {X} test (x ∷ xs) e y (inl same) = subst (λ (z : X). test z ≡ true) (sym same) ((and_parts _ _ e).0)
in_all test (x ∷ xs) e y (inr later) = in_all test xs ((and_parts _ _ e).1) y later
in_all test [] e y h = absurd h

pub in_map : {X Y : Type 0} (g : X → Y) (xs : List X) (x : X) → IsIn x xs → IsIn (g x) (map g xs)
in_map g [] x h = absurd h
in_map g (y ∷ xs) x (inl same) = inl (ap g same)
in_map g (y ∷ xs) x (inr later) = inr (in_map g xs x later)

pub from_map : {X Y : Type 0} (g : X → Y) (xs : List X) (y : Y) → IsIn y (map g xs) → (x : X) × IsIn x xs × (y ≡ g x)
from_map g [] y h = absurd h
from_map g (x ∷ xs) y (inl same) = (x, inl refl, same)
from_map g (x ∷ xs) y (inr later) = let w = from_map g xs y later in (w.0, inr w.1, w.2)

pub in_append_left : {X : Type 0} (x : X) (xs ys : List X) → IsIn x xs → IsIn x (xs ++ ys)
in_append_left x [] ys h = absurd h
in_append_left x (y ∷ xs) ys (inl same) = inl same
in_append_left x (y ∷ xs) ys (inr later) = inr (in_append_left x xs ys later)

pub in_append_right : {X : Type 0} (x : X) (xs ys : List X) → IsIn x ys → IsIn x (xs ++ ys)
in_append_right x [] ys h = h
in_append_right x (y ∷ xs) ys h = inr (in_append_right x xs ys h)

pub in_flat : {X Y : Type 0} (g : X → List Y) (xs : List X) (x : X) (y : Y) → IsIn x xs → IsIn y (g x) → IsIn y (flat_map g xs)
in_flat g [] x y h k = absurd h
in_flat {X} {Y} g (z ∷ xs) x y (inl same) k = in_append_left y (g z) (flat_map g xs) (subst (λ (w : X). IsIn y (g w)) same k)
in_flat g (z ∷ xs) x y (inr later) k = in_append_right y (g z) (flat_map g xs) (in_flat g xs x y later k)

pub from_take : {X : Type 0} (n : ℕ) (xs : List X) (x : X) → IsIn x (take n xs) → IsIn x xs
from_take zero [] x h = absurd h
from_take zero (y ∷ xs) x h = absurd h
from_take (suc n) [] x h = absurd h
from_take (suc n) (y ∷ xs) x (inl same) = inl same
from_take (suc n) (y ∷ xs) x (inr later) = inr (from_take n xs x later)

pub from_filter_map : {X Y : Type 0} (g : X → Option Y) (xs : List X) (y : Y) → IsIn y (filter_map g xs) → (x : X) × (g x ≡ Some y)
from_filter_map g [] y h = absurd h
from_filter_map {X} {Y} g (x ∷ xs) y h = cases (g x) refl h (from_filter_map g xs y) where
  cases : (o : Option Y) → g x ≡ o → IsIn y (cons_option o (filter_map g xs)) → (IsIn y (filter_map g xs) → (x : X) × (g x ≡ Some y)) → (x : X) × (g x ≡ Some y)
  cases None e h rest = rest h
  cases (Some z) e (inl same) rest = (x, e ∙ ap Some (sym same))
  cases (Some z) e (inr later) rest = rest later

-- what is gathered passed the test
pub from_gathered : {X : Type 0} (test : ℕ → Bool) (value : ℕ → Option X) (n : ℕ) (x : X) → IsIn x (gathered test value n) → (i : ℕ) × (test i ≡ true) × (value i ≡ Some x)
from_gathered {X} test value n x h = let w = from_filter_map (λ (i : ℕ). cond (test i) (value i) None) (numbers_from 0 n) x h in let v = split (test w.0) (value w.0) w.1 in (w.0, v.0, v.1) where
  split : (b : Bool) (o : Option X) → cond b o None ≡ Some x → (b ≡ true) × (o ≡ Some x)
  split true o e = (refl, e)
  split false o e = no_some x e
