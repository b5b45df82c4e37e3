-- The entries of a map, as a table, after a change of the map.
use Rattle.std.proofs.Common.{◌≡◌, Bool, true, false, cond, List, [], ◌∷◌, map, filter, Some, None, refl, sym, ap, subst, ◌∙◌}
use Rattle.std.specs.List.{AllByRecursion}
use Rattle.std.specs.Map.{lookup}
use Rattle.std.specs.Option.{option_map}
use Rattle.std.specs.Ordering.{nat_cmp, is_eq, match_ordering}
use Rattle.std.specs.declared.cmp.Ordering.{Ordering}
use Rattle.std.specs.declared.cmp.Ordering.TheVariants.{Less, Equal, Greater}
use Rattle.std.specs.Cmp.Lexicographic.{slice_cmp}
use Rattle.std.specs.FinMap.Entries.{by_order}
use Rattle.std.specs.BTreeMap as tree
use Rattle.pbft_model.specs.Tables.{Key, Table, at, entries_in, keep, with_entry}
use Rattle.replica_stores.specs.Entries.{table_of}
use Rattle.replica_stores.proofs.Lists.{filter_mapped, map_mapped}

-- The keys are compared as the table's are.
abbrev pub IsKey : {K : Type 0} → (K → K → Ordering) → (K → Key) → Type 0
IsKey {K} cmp key = (j k : K) → slice_cmp nat_cmp (key j) (key k) ≡ cmp j k

pub table_put : {K X Y : Type 0} (cmp : K → K → Ordering) (key : K → Key) (value : X → Y) → IsKey cmp key → (es : List (K × X)) (k : K) (x : X)
    → table_of key value (tree.insert_entry cmp es k x) ≡ with_entry (table_of key value es) (key k) (value x)
table_put cmp key value same [] k x = refl
table_put {K} {X} {Y} cmp key value same (e ∷ es) k x =
    cases (cmp k e.0) (table_put cmp key value same es k x)
    ∙ sym (ap (λ o. by_order o ((key k, value x) ∷ table_of key value (e ∷ es)) ((key e.0, value x) ∷ table_of key value es) ((key e.0, value e.1) ∷ with_entry (table_of key value es) (key k) (value x))) (same k e.0)) where
      cases : (o : Ordering) → table_of key value (tree.insert_entry cmp es k x) ≡ with_entry (table_of key value es) (key k) (value x)
          → table_of key value (match_ordering o ((k, x) ∷ e ∷ es) ((e.0, x) ∷ es) (e ∷ tree.insert_entry cmp es k x))
          ≡ by_order o ((key k, value x) ∷ table_of key value (e ∷ es)) ((key e.0, value x) ∷ table_of key value es) ((key e.0, value e.1) ∷ with_entry (table_of key value es) (key k) (value x))
      cases Less h = refl
      cases Equal h = refl
      cases Greater h = ap (λ (t : Table Y). (key e.0, value e.1) ∷ t) h

pub table_at : {K X Y : Type 0} (cmp : K → K → Ordering) (key : K → Key) (value : X → Y) → IsKey cmp key → (es : List (K × X)) (k : K)
    → at (table_of key value es) (key k) ≡ option_map value (lookup (tree.is_at (cmp k)) es)
table_at cmp key value same [] k = refl
table_at {K} {X} {Y} cmp key value same (e ∷ es) k =
    ap (λ o. cond (is_eq o) (Some (value e.1)) (at (table_of key value es) (key k))) (same k e.0) ∙ cases (is_eq (cmp k e.0)) (table_at cmp key value same es k) where
      cases : (b : Bool) → at (table_of key value es) (key k) ≡ option_map value (lookup (tree.is_at (cmp k)) es)
          → cond b (Some (value e.1)) (at (table_of key value es) (key k)) ≡ option_map value (cond b (Some e.1) (lookup (tree.is_at (cmp k)) es))
      cases true h = refl
      cases false h = h

pub table_keep : {K X Y : Type 0} (key : K → Key) (value : X → Y) (test : Key → Bool) (es : List (K × X))
    → table_of key value (filter (λ e. test (key e.0)) es) ≡ keep test (table_of key value es)
table_keep {K} {X} {Y} key value test es = sym (filter_mapped (λ (e : Key × Y). test e.0) (λ (e : K × X). (key e.0, value e.1)) es)

pub table_entries : {K X Y : Type 0} (key : K → Key) (value : X → Y) (es : List (K × X)) → entries_in (table_of key value es) ≡ map (λ e. value e.1) es
table_entries {K} {X} {Y} key value es = map_mapped (λ (e : Key × Y). e.1) (λ (e : K × X). (key e.0, value e.1)) es

-- ---- what holds of each entry

pub all_inserted : {K X : Type 0} (P : K × X → Type 0) (cmp : K → K → Ordering) (es : List (K × X)) (k : K) (x : X)
    → P (k, x) → ((j : K) → cmp k j ≡ Equal → P (j, x)) → AllByRecursion P es → AllByRecursion P (tree.insert_entry cmp es k x)
all_inserted P cmp [] k x here tied all = (here, tt)
all_inserted {K} {X} P cmp (e ∷ es) k x here tied all = cases (cmp k e.0) refl (all_inserted P cmp es k x here tied all.1) where
  cases : (o : Ordering) → cmp k e.0 ≡ o → AllByRecursion P (tree.insert_entry cmp es k x) → AllByRecursion P (match_ordering o ((k, x) ∷ e ∷ es) ((e.0, x) ∷ es) (e ∷ tree.insert_entry cmp es k x))
  cases Less is h = (here, all)
  cases Equal is h = (tied e.0 is, all.1)
  cases Greater is h = (all.0, h)

pub all_filtered : {X : Type 0} (P : X → Type 0) (test : X → Bool) (xs : List X) → AllByRecursion P xs → AllByRecursion P (filter test xs)
all_filtered P test [] all = tt
all_filtered {X} P test (x ∷ xs) all = cases (test x) (all_filtered P test xs all.1) where
  cases : (b : Bool) → AllByRecursion P (filter test xs) → AllByRecursion P (cond b (x ∷ filter test xs) (filter test xs))
  cases true h = (all.0, h)
  cases false h = h

-- what holds of an entry that is found
pub all_found : {K X : Type 0} (P : K × X → Type 0) (test : K → Bool) (es : List (K × X)) (x : X) → AllByRecursion P es → lookup test es ≡ Some x
    → (k : K) × (test k ≡ true) × P (k, x)
all_found P test [] x all is = absurd (none_some is) where
  none_some : None ≡ Some x → ⊥
  none_some e = absurd cc
all_found {K} {X} P test (e ∷ es) x all is = cases (test e.0) refl is (all_found P test es x all.1) where
  cases : (b : Bool) → test e.0 ≡ b → cond b (Some e.1) (lookup test es) ≡ Some x → (lookup test es ≡ Some x → (k : K) × (test k ≡ true) × P (k, x)) → (k : K) × (test k ≡ true) × P (k, x)
  cases true t found rest = (e.0, t, subst (λ (y : X). P (e.0, y)) (same_one found) all.0) where
    same_one : Some e.1 ≡ Some x → e.1 ≡ x
    same_one h = cc
  cases false t found rest = rest found
