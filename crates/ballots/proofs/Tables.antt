-- Tables that are read off by their keys.
use Rattle.std.proofs.Common.{◌≡◌, Bool, true, false, cond, ◌||◌, ◌&&◌, not, List, [], ◌∷◌, ◌++◌, Option, Some, None, refl, sym, ap, ◌∙◌, T}
use Rattle.std.specs.Prelude.{is_some}
use Rattle.std.specs.declared.cmp.Ordering.{Ordering}
use Rattle.std.specs.Ordering.{nat_cmp, eq_by_cmp, is_eq}
use Rattle.std.specs.declared.cmp.Ordering.TheVariants.{Less, Equal, Greater}
use Rattle.std.specs.Cmp.Lexicographic.{slice_cmp, nat_list_cmp_total}
use Rattle.std.specs.FinMap.{is_sorted, nat_cmp-IsAntisymmetric, slice_cmp-IsAntisymmetric}
use Rattle.std.specs.FinMap.Entries.{is_sorted-put, is_sorted-where_key, find-put, find-where_key, same_entries}
use Rattle.std.specs.Cmp.{tied_itself}
use Rattle.pbft_model.specs.Tables.{Key, Table, at, add_if, keep, with_entry}
use Rattle.ballots.specs.ByKey.{table_by, and_entry, is_among, Covers}

abbrev pub by : Key → Key → Ordering
by = slice_cmp nat_cmp

pub same_key : (x y : Key) → by x y ≡ Equal → x ≡ y
same_key = slice_cmp-IsAntisymmetric nat_cmp-IsAntisymmetric

pub is_equal : (o : Ordering) → is_eq o ≡ true → o ≡ Equal
is_equal Less e = absurd cc
is_equal Equal e = refl
is_equal Greater e = absurd cc

tied : (q k : Key) → eq_by_cmp by q k ≡ true → q ≡ k
tied q k e = same_key q k (is_equal (by q k) e)

sorted_entry : {X : Type 0} (k : Key) (o : Option X) (t : Table X) → T (is_sorted by t) → T (is_sorted by (and_entry k o t))
sorted_entry k None t h = h
sorted_entry k (Some x) t h = is_sorted-put by nat_list_cmp_total k x t h

pub sorted_by : {X : Type 0} (value : Key → Option X) (ks : List Key) → T (is_sorted by (table_by value ks))
sorted_by value [] = tt
sorted_by value (k ∷ ks) = sorted_entry k (value k) (table_by value ks) (sorted_by value ks)

-- what is found: the value, of the keys that there are
entry_found : {X : Type 0} (q k : Key) (o : Option X) (t : Table X) → at (and_entry k o t) q ≡ cond (eq_by_cmp by q k && is_some o) o (at t q)
entry_found q k None t = none (eq_by_cmp by q k) where
  none : (b : Bool) → at t q ≡ cond (b && false) None (at t q)
  none true = refl
  none false = refl
entry_found q k (Some x) t = find-put by nat_list_cmp_total q k x t ∙ some (eq_by_cmp by q k) where
  some : (b : Bool) → cond b (Some x) (at t q) ≡ cond (b && true) (Some x) (at t q)
  some true = refl
  some false = refl

found_step : {X : Type 0} (a b : Bool) (v w : Option X) → (a ≡ true → v ≡ w) → cond (a && is_some v) v (cond b w None) ≡ cond (a || b) w None
found_step true true None w h = refl
found_step true false None w h = h refl
found_step true b (Some x) w h = h refl
found_step false b v w h = refl

pub found_by : {X : Type 0} (value : Key → Option X) (ks : List Key) (q : Key) → at (table_by value ks) q ≡ cond (is_among q ks) (value q) None
found_by value [] q = refl
found_by value (k ∷ ks) q =
    entry_found q k (value k) (table_by value ks) ∙ ap (cond (eq_by_cmp by q k && is_some (value k)) (value k)) (found_by value ks q)
    ∙ found_step (eq_by_cmp by q k) (is_among q ks) (value k) (value q) (λ e. ap value (sym (tied q k e)))

covered : {X : Type 0} (b : Bool) (o : Option X) → (b ≡ false → o ≡ None) → cond b o None ≡ o
covered true o h = refl
covered false o h = sym (h refl)

pub found : {X : Type 0} (value : Key → Option X) (ks : List Key) (q : Key) → Covers value ks → at (table_by value ks) q ≡ value q
found value ks q h = found_by value ks q ∙ covered (is_among q ks) (value q) (h q)

-- a table that answers so, in the order of its keys, is the one read off
pub is_read_off : {X : Type 0} (value : Key → Option X) (ks : List Key) (t : Table X) → Covers value ks → T (is_sorted by t) → ((q : Key) → at t q ≡ value q) → table_by value ks ≡ t
is_read_off value ks t h sorted is = same_entries by nat_list_cmp_total same_key (table_by value ks) t (sorted_by value ks) sorted (λ q. found value ks q h ∙ sym (is q))

pub same_table : {X : Type 0} (value other : Key → Option X) (ks others : List Key) → Covers value ks → Covers other others → ((q : Key) → other q ≡ value q) → table_by other others ≡ table_by value ks
same_table value other ks others h g is = is_read_off other others (table_by value ks) g (sorted_by value ks) (λ q. found value ks q h ∙ sym (is q))

-- the first counts
abbrev pub HasFirst : {X : Type 0} → Key → X → (Key → Option X) → (Key → Option X) → Type 0
HasFirst key x value other = (q : Key) → other q ≡ cond (eq_by_cmp by q key && not (is_some (value key))) (Some x) (value q)

pub sorted_add : {X : Type 0} (key : Key) (x : X) (t : Table X) (b : Bool) → T (is_sorted by t) → T (is_sorted by (cond b t (with_entry t key x)))
sorted_add key x t true h = h
sorted_add key x t false h = is_sorted-put by nat_list_cmp_total key x t h

pub at_add : {X : Type 0} (key q : Key) (x : X) (t : Table X) (b : Bool) → at (cond b t (with_entry t key x)) q ≡ cond (eq_by_cmp by q key && not b) (Some x) (at t q)
at_add key q x t true = none (eq_by_cmp by q key) where
  none : (b : Bool) → at t q ≡ cond (b && false) (Some x) (at t q)
  none true = refl
  none false = refl
at_add key q x t false = find-put by nat_list_cmp_total q key x t ∙ some (eq_by_cmp by q key) where
  some : (b : Bool) → cond b (Some x) (at t q) ≡ cond (b && true) (Some x) (at t q)
  some true = refl
  some false = refl

pub added_table : {X : Type 0} (key : Key) (x : X) (value other : Key → Option X) (ks others : List Key) → Covers value ks → Covers other others → HasFirst key x value other
    → table_by other others ≡ add_if true key x (table_by value ks)
added_table key x value other ks others h g is =
    let t = table_by value ks in
    is_read_off other others (add_if true key x t) g (sorted_add key x t (is_some (at t key)) (sorted_by value ks))
    (λ q. at_add key q x t (is_some (at t key)) ∙ ap (λ b. cond (eq_by_cmp by q key && not b) (Some x) (at t q)) (ap is_some (found value ks key h))
    ∙ ap (cond (eq_by_cmp by q key && not (is_some (value key))) (Some x)) (found value ks q h) ∙ sym (is q))

-- only some keys are kept
pub kept_table : {X : Type 0} (test : Key → Bool) (value other : Key → Option X) (ks others : List Key) → Covers value ks → Covers other others → ((q : Key) → other q ≡ cond (test q) (value q) None)
    → table_by other others ≡ keep test (table_by value ks)
kept_table test value other ks others h g is =
    let t = table_by value ks in
    is_read_off other others (keep test t) g (is_sorted-where_key by test t (sorted_by value ks))
    (λ q. find-where_key by test q (λ x e. ap test (sym (same_key q x e))) t ∙ ap (λ o. cond (test q) o None) (found value ks q h) ∙ sym (is q))

pub ties : (q : Key) → eq_by_cmp by q q ≡ true
ties q = ap is_eq (tied_itself nat_list_cmp_total q)

pub among_append : (q : Key) (ks others : List Key) → is_among q (ks ++ others) ≡ (is_among q ks || is_among q others)
among_append q [] others = refl
among_append q (k ∷ ks) others = step (eq_by_cmp (slice_cmp nat_cmp) q k) (among_append q ks others) where
  step : (b : Bool) → is_among q (ks ++ others) ≡ (is_among q ks || is_among q others) → (b || is_among q (ks ++ others)) ≡ ((b || is_among q ks) || is_among q others)
  step true e = refl
  step false e = e
