-- A change of a tenant's map leaves a tenant's map.
use Rattle.std.proofs.Common.{◌<◌, Ordering, ◌≡◌, ℕ, ◌+◌, ◌≤◌, ◌-◌, Bool, true, false, cond, not, Some, None, IfSome, find, nat_lt, ◌||◌, List, [], ◌∷◌, ◌++◌, length, map, All, refl, sym, ap, subst, ◌∙◌, arith, true≢false}
use Rattle.std.specs.Ordering.{nat_cmp, eq_by_cmp, is_eq, ordering_reverse}
use Rattle.std.proofs.lemmas.Bool.{ltb-true, lt-ltb}
use Rattle.std.proofs.lemmas.Cmp.{alike_right, eq_by_cmp_equiv}
use Rattle.std.specs.Cmp.Lexicographic.{slice_cmp, nat_list_cmp_total}
use Rattle.std.specs.FinMap as finite
use Rattle.std.specs.FinMap.Entries.{is_sorted-where_key, find-where_key, where_key, put as put_entry, by_order}
use Rattle.std.specs.declared.cmp.Ordering.TheVariants.{Less, Equal, Greater}
use Rattle.std.proofs.lemmas.List.Elements.{All-cons, All-head, All-tail, All-nil}
use Rattle.tenant_maps.specs.Entries.{Entries, IsKey, IsValue, IsTenantMap, has_room, put, next_key}

-- the order of the bytes of keys
abbrev pub order : List ℕ → List ℕ → Ordering
order = slice_cmp nat_cmp

-- only equal keys tie
pub order_tells : finite.IsAntisymmetric order
order_tells = finite.slice_cmp-IsAntisymmetric finite.nat_cmp-IsAntisymmetric

module _ {A : Type 0} (f : List ℕ × List ℕ → A) (P : A → Type 0) where
  -- what f reads of each entry has P after an entry whose reading has P was put
  pub All-map-where : (test : List ℕ → Bool) (es : List (List ℕ × List ℕ)) → All P (map f es) → All P (map f (where_key order test es))
  All-map-where test [] all = all
  All-map-where test (e ∷ es) all =
      let rest = All-map-where test es (All-tail P _ _ all) in
      elim (test e.0) as (λ b. All P (map f (cond b (e ∷ where_key order test es) (where_key order test es)))) [
        | true ↦ All-cons P _ _ (All-head P _ _ all) rest
        | false ↦ rest
      ]

-- the keys after an entry was put
pub All-keys-put : (P : List ℕ → Type 0) (k v : List ℕ) (es : List (List ℕ × List ℕ)) → P k → All P (map (λ e. e.0) es) → All P (map (λ e. e.0) (put_entry order k v es))
All-keys-put P k v [] one all = All-cons P k [] one all
All-keys-put P k v (e ∷ es) one all =
    elim (order k e.0) as (λ o. All P (map (λ x. x.0) (by_order o ((k, v) ∷ e ∷ es) ((e.0, v) ∷ es) (e ∷ put_entry order k v es)))) [
      | Less ↦ All-cons P k (map (λ x. x.0) (e ∷ es)) one all
      | Equal ↦ all
      | Greater ↦ All-cons P _ _ (All-head P _ _ all) (All-keys-put P k v es one (All-tail P _ _ all))
    ]

-- and the values
pub All-values-put : (P : List ℕ → Type 0) (k v : List ℕ) (es : List (List ℕ × List ℕ)) → P v → All P (map (λ e. e.1) es) → All P (map (λ e. e.1) (put_entry order k v es))
All-values-put P k v [] one all = All-cons P v [] one all
All-values-put P k v (e ∷ es) one all =
    elim (order k e.0) as (λ o. All P (map (λ x. x.1) (by_order o ((k, v) ∷ e ∷ es) ((e.0, v) ∷ es) (e ∷ put_entry order k v es)))) [
      | Less ↦ All-cons P v (map (λ x. x.1) (e ∷ es)) one all
      | Equal ↦ All-cons P _ _ one (All-tail P _ _ all)
      | Greater ↦ All-cons P _ _ (All-head P _ _ all) (All-values-put P k v es one (All-tail P _ _ all))
    ]

pub count_stays : (there room : Bool) (n m : ℕ) → (there || room) ≡ true → nat_lt n 4096 ≡ room → n ≤ 4096 → m ≡ cond there n (n + 1) → m ≤ 4096
count_stays true room n m h lt few e = omega (arith, e, few)
count_stays false true n m h lt few e = omega (arith, e, ltb-true n 4096 lt)
count_stays false false n m h lt few e = absurd (true≢false (sym h))

-- The map with an entry that there is room for.
pub IsTenantMap-insert : (entries : Entries) (key value : List ℕ) → IsTenantMap entries
    → IsKey key → IsValue value
    → has_room entries key ≡ true → IsTenantMap (finite.insert entries key value)
IsTenantMap-insert entries key value is k v room = record {
  keys = subst (λ es. All IsKey (map (λ e. e.0) es)) (sym (finite.entries-insert nat_list_cmp_total entries key value)) (All-keys-put IsKey key value _ k is.keys);
  values = subst (λ es. All IsValue (map (λ e. e.1) es)) (sym (finite.entries-insert nat_list_cmp_total entries key value)) (All-values-put IsValue key value _ v is.values);
  count = count_stays (finite.contains_key entries key) _ (finite.len entries) _ room refl is.count (finite.len-insert nat_list_cmp_total entries key value);
}

-- The values after an insertion.
pub values_after_insert : (entries : Entries) (key value : List ℕ) → All IsValue (finite.values entries) → IsValue value → All IsValue (finite.values (finite.insert entries key value))
values_after_insert entries key value all is =
    subst (λ es. All IsValue (map (λ e. e.1) es)) (sym (finite.entries-insert nat_list_cmp_total entries key value)) (All-values-put IsValue key value _ is all)

no_entries : {A : Type 0} (es : List A) → length es ≡ 0 → es ≡ []
no_entries [] e = refl
no_entries (x ∷ es) e = absurd (omega (arith, e))

put_cases : (b : Bool) (entries more : Entries) → IsTenantMap entries → (b ≡ true → IsTenantMap more) → IsTenantMap (cond b more entries)
put_cases true entries more is then = then refl
put_cases false entries more is then = is

-- A tenant's map stays one where a key and a value of their lengths are put.
pub IsTenantMap-put : (entries : Entries) (key value : List ℕ) → IsTenantMap entries
    → IsKey key → IsValue value
    → IsTenantMap (put entries key value)
IsTenantMap-put entries key value is k v = put_cases (has_room entries key) _ _ is (IsTenantMap-insert entries key value is k v)

turned : {A : Type 0} (b : Bool) (x y : A) → cond (not b) x y ≡ cond b y x
turned true x y = refl
turned false x y = refl

-- What is left after a key was taken out.
pub entries-remove : (entries : Entries) (key : List ℕ)
    → finite.entries (finite.remove entries key) ≡ where_key order (λ other. not (eq_by_cmp order key other)) (finite.entries entries)
entries-remove entries key =
    let test : List ℕ → Bool = λ other. not (eq_by_cmp order key other) in
    let left = where_key order test (finite.entries entries) in
    let sorted = is_sorted-where_key order test (finite.entries entries) (finite.entries_sorted entries) in
    let one : (q : List ℕ) → finite.get (finite.remove entries key) q ≡ finite.get (finite.from_sorted {R = order} left) q = λ q.
    finite.get-remove nat_list_cmp_total entries key q
    ∙ ap (λ b. cond b None (finite.get entries q)) (sym ((eq_by_cmp_equiv nat_list_cmp_total).symm key q))
    ∙ sym (turned (eq_by_cmp order key q) (finite.get entries q) None)
    ∙ ap (λ found. cond (test q) found None) (finite.get-entries entries q)
    ∙ sym (find-where_key order test q (λ x t. ap (λ r. not (is_eq r)) (sym (alike_right nat_list_cmp_total q x key t))) (finite.entries entries))
    ∙ sym (finite.get-from_sorted order left q sorted) in
    ap finite.entries (finite.same_map nat_list_cmp_total order_tells _ _ one) ∙ finite.entries-from_sorted order left sorted

pub count_falls : (there : Bool) (n m : ℕ) → n ≤ 4096 → m ≡ cond there (n - 1) n → m ≤ 4096
count_falls true n m few e = omega (arith, e, few)
count_falls false n m few e = omega (arith, e, few)

-- A tenant's map stays one where a key is taken out.
pub IsTenantMap-remove : (entries : Entries) (key : List ℕ) → IsTenantMap entries → IsTenantMap (finite.remove entries key)
IsTenantMap-remove entries key is = record {
  keys = subst (λ es. All IsKey (map (λ e. e.0) es)) (sym (entries-remove entries key)) (All-map-where (λ e. e.0) IsKey _ _ is.keys);
  values = subst (λ es. All IsValue (map (λ e. e.1) es)) (sym (entries-remove entries key)) (All-map-where (λ e. e.1) IsValue _ _ is.values);
  count = count_falls (finite.contains_key entries key) (finite.len entries) _ is.count (finite.len-remove nat_list_cmp_total entries key);
}

-- The map with no entries is a tenant's.
pub IsTenantMap-empty : IsTenantMap finite.empty
IsTenantMap-empty =
    let none : finite.entries (finite.empty {K = List ℕ} {X = List ℕ} {R = order}) ≡ [] = no_entries _ (sym (finite.len-entries _) ∙ finite.len-empty order (List ℕ)) in
    record {
      keys = subst (λ es. All IsKey (map (λ e. e.0) es)) (sym none) (All-nil IsKey);
      values = subst (λ es. All IsValue (map (λ e. e.1) es)) (sym none) (All-nil IsValue);
      count = omega (arith, finite.len-empty order (List ℕ));
    }

-- What is read after a put of a key that there is room for.
pub get-put : (entries : Entries) (key value other : List ℕ) → has_room entries key ≡ true
    → finite.get (put entries key value) other ≡ cond (eq_by_cmp order other key) (Some value) (finite.get entries other)
get-put entries key value other room =
    ap (λ b. finite.get (cond b (finite.insert entries key value) entries) other) room ∙ finite.get-insert nat_list_cmp_total entries key value other

-- A key is read as it was put.
pub get-put_here : (entries : Entries) (key value : List ℕ) → has_room entries key ≡ true → finite.get (put entries key value) key ≡ Some value
get-put_here entries key value room =
    get-put entries key value key room ∙ ap (λ b. cond b (Some value) (finite.get entries key)) ((eq_by_cmp_equiv nat_list_cmp_total).refl key)

find_value : (P : List ℕ → Type 0) (q : List ℕ) (es : List (List ℕ × List ℕ)) → All P (map (λ e. e.1) es) → IfSome (finite.find order q es) P
find_value P q [] all = tt
find_value P q (e ∷ es) all =
    elim (eq_by_cmp order q e.0) as (λ b. IfSome (cond b (Some e.1) (finite.find order q es)) P) [
      | true ↦ All-head P _ _ all
      | false ↦ find_value P q es (All-tail P _ _ all)
    ]

-- What is read from a tenant's map is a value.
pub IsValue-get : (entries : Entries) (key : List ℕ) → IsTenantMap entries → IfSome (finite.get entries key) IsValue
IsValue-get entries key is =
    subst (λ found. IfSome found IsValue) (sym (finite.get-entries entries key)) (find_value IsValue key (finite.entries entries) is.values)

find_key : (P : List ℕ → Type 0) (test : List ℕ → Bool) (keys : List (List ℕ)) → All P keys → IfSome (find test keys) P
find_key P test [] all = tt
find_key P test (key ∷ keys) all =
    elim (test key) as (λ b. IfSome (cond b (Some key) (find test keys)) P) [
      | true ↦ All-head P _ _ all
      | false ↦ find_key P test keys (All-tail P _ _ all)
    ]

-- The next key of a tenant's map is a key.
pub IsKey-next_key : (entries : Entries) (key : List ℕ) → IsTenantMap entries → IfSome (next_key entries key) IsKey
IsKey-next_key entries key is = find_key IsKey _ (finite.keys entries) is.keys

pub or_true : (b : Bool) → (b || true) ≡ true
or_true true = refl
or_true false = refl

put_last : (key value : List ℕ) (es : List (List ℕ × List ℕ)) → All (λ other. order other key ≡ Less) (map (λ e. e.0) es) → put_entry order key value es ≡ es ++ (key, value) ∷ []
put_last key value [] below = refl
put_last key value (e ∷ es) below =
    let greater : order key e.0 ≡ Greater = nat_list_cmp_total.antisymm key e.0 ∙ ap ordering_reverse (All-head (λ other. order other key ≡ Less) e.0 (map (λ x. x.0) es) below) in
    ap (λ o. by_order o ((key, value) ∷ e ∷ es) ((e.0, value) ∷ es) (e ∷ put_entry order key value es)) greater
    ∙ ap (λ rest. e ∷ rest) (put_last key value es (All-tail (λ other. order other key ≡ Less) e.0 (map (λ x. x.0) es) below))

-- A key above all others comes last: so a map is built again from its entries in order.
pub entries-put_last : (entries : Entries) (key value : List ℕ) → All (λ other. order other key ≡ Less) (finite.keys entries) → finite.len entries < 4096
    → finite.entries (put entries key value) ≡ finite.entries entries ++ (key, value) ∷ []
entries-put_last entries key value below few =
    let room : has_room entries key ≡ true = ap (λ b. finite.contains_key entries key || b) (lt-ltb (finite.len entries) 4096 few) ∙ or_true (finite.contains_key entries key) in
    ap (λ b. finite.entries (cond b (finite.insert entries key value) entries)) room
    ∙ finite.entries-insert nat_list_cmp_total entries key value
    ∙ put_last key value (finite.entries entries) below
