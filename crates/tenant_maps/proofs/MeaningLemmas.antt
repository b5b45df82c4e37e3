-- What an ordered map means, and what its calls do to the meaning.
use Rattle.std.proofs.Common.{◌≡◌, ℕ, Bool, true, false, cond, arith, All, Some, None, List, [], ◌∷◌, length, get_or, map, find, option_map, slice_get, T, ◌&&◌, ◌||◌, nat_lt, ◌<◌, ◌≤◌, Result, Ok, Err, OnOk, OnErr, is_some, true≢false, refl, sym, ap, subst, ◌∙◌}
use Rattle.std.specs.Ordering.{is_lt, eq_by_cmp}
use Rattle.std.specs.declared.cmp.Ordering.TheVariants.{Less}
use Rattle.std.specs.List.{AllByRecursion, filter}
use Rattle.std.specs.List.Sorted.{IsStrictlySortedBy}
use Rattle.std.specs.Cmp.Lexicographic.{nat_list_cmp_total}
use Rattle.std.proofs.lemmas.Bool.{ltb-true, lt-ltb, le-ltb}
use Rattle.std.proofs.lemmas.Cmp.{eq_by_cmp_equiv}
use Rattle.std.proofs.lemmas.List.Elements.{All-from_get_or}
use Rattle.std.proofs.lemmas.List.{length-map}
use Rattle.std.proofs.lemmas.Map.Keys.{sorted_head, sorted_tail}
use Rattle.std.specs.Map.{keys_of, lookup}
use Rattle.std.specs.BTreeMap as tree
use Rattle.std.specs.BTreeMap.{BTreeMap, IsOrdered, IsUnchanged, Updates, UpdatesBy, is_at}
use Rattle.std.specs.BTreeMap.Range.{entries_between}
use Rattle.std.specs.declared.ops.Bound.TheVariants.{Excluded, Unbounded}
use Rattle.std.specs.FinMap as finite
use Rattle.std.specs.FinMap.Entries.{is_sorted, below_all}
use Rattle.tenant_maps.specs.Entries.{Entries, IsKey, IsValue, IsTenantMap, has_room, put, next_key}
use Rattle.tenant_maps.specs.TenantEntries.{meaning}
use Rattle.tenant_maps.proofs.EntriesLemmas.{order, order_tells, or_true, IsTenantMap-empty, IsTenantMap-insert, IsTenantMap-remove, values_after_insert}

both : (a b : Bool) → T a → T b → T (a && b)
both true b p q = q
both false b p q = p

below_all-from : (k : List ℕ) (es : List (List ℕ × List ℕ)) → AllByRecursion (λ other. order k other ≡ Less) (keys_of es) → T (below_all order k es)
below_all-from k [] h = tt
below_all-from k (e ∷ es) h = both _ _ (subst (λ r. T (is_lt r)) (sym h.0) tt) (below_all-from k es h.1)

sorted-from : (es : List (List ℕ × List ℕ)) → IsStrictlySortedBy order (keys_of es) → T (is_sorted order es)
sorted-from [] h = tt
sorted-from (e ∷ es) h = both _ _ (below_all-from e.0 es (sorted_head order _ _ h)) (sorted-from es (sorted_tail order _ _ h))

-- the entries are the map's own
pub entries-meaning : (m : BTreeMap (List ℕ) (List ℕ)) → IsOrdered order m → finite.entries (meaning m) ≡ m.entries
entries-meaning m o = finite.entries-from_sorted order m.entries (sorted-from m.entries o)

find-lookup : (q : List ℕ) (es : List (List ℕ × List ℕ)) → finite.find order q es ≡ lookup (is_at (order q)) es
find-lookup q [] = refl
find-lookup q (e ∷ es) = ap (cond (eq_by_cmp order q e.0) (Some e.1)) (find-lookup q es)

pub get-meaning : (m : BTreeMap (List ℕ) (List ℕ)) → IsOrdered order m → (q : List ℕ) → finite.get (meaning m) q ≡ tree.get order m q
get-meaning m o q = finite.get-from_sorted order m.entries q (sorted-from m.entries o) ∙ find-lookup q m.entries

pub len-meaning : (m : BTreeMap (List ℕ) (List ℕ)) → IsOrdered order m → finite.len (meaning m) ≡ length m.entries
len-meaning m o = finite.len-entries (meaning m) ∙ ap length (entries-meaning m o)

-- two maps with the same entries mean the same
pub meaning-unchanged : (m n : BTreeMap (List ℕ) (List ℕ)) → n.entries ≡ m.entries → meaning n ≡ meaning m
meaning-unchanged m n e = ap finite.from_sorted e

pub meaning-insert : (m n : BTreeMap (List ℕ) (List ℕ)) (k v : List ℕ) → IsOrdered order m → IsOrdered order n → Updates order m n k (Some v) → meaning n ≡ finite.insert (meaning m) k v
meaning-insert m n k v o p u = finite.same_map nat_list_cmp_total order_tells _ _ (λ q.
    get-meaning n p q
    ∙ u.0 q
    ∙ ap (λ b. cond b (Some v) (tree.get order m q)) ((eq_by_cmp_equiv nat_list_cmp_total).symm k q)
    ∙ ap (cond (eq_by_cmp order q k) (Some v)) (sym (get-meaning m o q))
    ∙ sym (finite.get-insert nat_list_cmp_total (meaning m) k v q))

pub meaning-remove : (m n : BTreeMap (List ℕ) (List ℕ)) (k : List ℕ) → IsOrdered order m → IsOrdered order n → UpdatesBy order (order k) m n None → meaning n ≡ finite.remove (meaning m) k
meaning-remove m n k o p u = finite.same_map nat_list_cmp_total order_tells _ _ (λ q.
    get-meaning n p q
    ∙ u.0 q
    ∙ ap (λ b. cond b None (tree.get order m q)) ((eq_by_cmp_equiv nat_list_cmp_total).symm k q)
    ∙ ap (cond (eq_by_cmp order q k) None) (sym (get-meaning m o q))
    ∙ sym (finite.get-remove nat_list_cmp_total (meaning m) k q))

pub meaning-empty : (m : BTreeMap (List ℕ) (List ℕ)) → IsOrdered order m → m.entries ≡ [] → meaning m ≡ finite.empty
meaning-empty m o e = finite.empty_of_len (meaning m) (len-meaning m o ∙ ap length e)

-- the first key that is above
first_above : (key : List ℕ) (es : List (List ℕ × List ℕ)) → option_map (λ e. e.0) (slice_get (filter (λ e. is_lt (order key e.0) && true) es) 0) ≡ find (λ other. is_lt (order key other)) (map (λ e. e.0) es)
first_above key [] = refl
first_above key (e ∷ es) =
    elim (is_lt (order key e.0)) as (λ b. option_map (λ x. x.0) (slice_get (cond (b && true) (e ∷ filter (λ x. is_lt (order key x.0) && true) es) (filter (λ x. is_lt (order key x.0) && true) es)) 0) ≡ cond b (Some e.0) (find (λ other. is_lt (order key other)) (map (λ x. x.0) es))) [
      | true ↦ refl
      | false ↦ first_above key es
    ]

-- the next key is the first entry's of those above
pub next-meaning : (m : BTreeMap (List ℕ) (List ℕ)) (key : List ℕ) (above : List (List ℕ × List ℕ)) → IsOrdered order m
    → above ≡ entries_between order (Excluded key) Unbounded m.entries
    → option_map (λ e. e.0) (slice_get above 0) ≡ next_key (meaning m) key
next-meaning m key above o e =
    ap (λ es. option_map (λ x. x.0) (slice_get es 0)) e
    ∙ first_above key m.entries
    ∙ ap (λ es. find (λ other. is_lt (order key other)) (map (λ x. x.0) es)) (sym (entries-meaning m o))

or_false : (b : Bool) → (b || false) ≡ b
or_false true = refl
or_false false = refl

-- where the map isn't full, each key can be written
pub has_room-few : (entries : Entries) (key : List ℕ) (n : ℕ) → n ≡ finite.len entries → n < 4096 → nat_lt n 4096 ≡ has_room entries key
has_room-few entries key n e few =
    let below : nat_lt n 4096 ≡ true = lt-ltb n 4096 few in
    below ∙ sym (ap (λ b. finite.contains_key entries key || b) (ap (λ k. nat_lt k 4096) (sym e) ∙ below) ∙ or_true (finite.contains_key entries key))

pub can_insert : (entries : Entries) (key : List ℕ) (n : ℕ) → n ≡ finite.len entries → n < 4096 → has_room entries key ≡ true
can_insert entries key n e few = sym (has_room-few entries key n e few) ∙ lt-ltb n 4096 few

-- where it is full, a key that is there can be
pub has_room-full : (entries : Entries) (key : List ℕ) (n : ℕ) → n ≡ finite.len entries → 4096 ≤ n → finite.contains_key entries key ≡ has_room entries key
has_room-full entries key n e many =
    let full : nat_lt n 4096 ≡ false = le-ltb n 4096 many in
    sym (ap (λ b. finite.contains_key entries key || b) (ap (λ k. nat_lt k 4096) (sym e) ∙ full) ∙ or_false (finite.contains_key entries key))

-- an insertion that there is room for keeps a tenant's map, also where memory ran out
pub IsTenantMap-after_insert : {X E : Type 0} (m n : BTreeMap (List ℕ) (List ℕ)) (k v : List ℕ) (r : Result X E) → IsOrdered order m → IsOrdered order n
    → OnOk r (Updates order m n k (Some v)) → OnErr r (IsUnchanged m n)
    → IsTenantMap (meaning m) → IsKey k → IsValue v → has_room (meaning m) k ≡ true → IsTenantMap (meaning n)
IsTenantMap-after_insert m n k v (Ok x) o p u same is key value room =
    subst IsTenantMap (sym (meaning-insert m n k v o p u)) (IsTenantMap-insert (meaning m) k v is key value room)
IsTenantMap-after_insert m n k v (Err x) o p u same is key value room =
    subst IsTenantMap (sym (meaning-unchanged m n same)) is

-- a key that is there can be written
pub has_room-stored : (entries : Entries) (key value : List ℕ) → finite.get entries key ≡ Some value → has_room entries key ≡ true
has_room-stored entries key value e = ap (λ o. is_some o || nat_lt (finite.len entries) 4096) e

-- a new key can't where the map is full
pub has_room-new : (entries : Entries) (key : List ℕ) → finite.get entries key ≡ None → 4096 ≤ finite.len entries → has_room entries key ≡ false
has_room-new entries key e many = ap (λ o. is_some o || nat_lt (finite.len entries) 4096) e ∙ le-ltb (finite.len entries) 4096 many

-- a value written over another keeps a tenant's map
pub IsTenantMap-after_overwrite : (m n : BTreeMap (List ℕ) (List ℕ)) (k v old : List ℕ) → IsOrdered order m → IsOrdered order n → Updates order m n k (Some v) → tree.keys n ≡ tree.keys m
    → IsTenantMap (meaning m) → IsValue v → IsTenantMap (meaning n)
IsTenantMap-after_overwrite m n k v old o p u same is value = record {
  keys = subst (λ es. All IsKey (map (λ e. e.0) es)) (sym (entries-meaning n p)) (subst (All IsKey) (sym same) (subst (λ es. All IsKey (map (λ e. e.0) es)) (entries-meaning m o) is.keys));
  values = subst (λ f. All IsValue (finite.values f)) (sym (meaning-insert m n k v o p u)) (values_after_insert (meaning m) k v is.values value);
  count = omega (arith, is.count, len-meaning m o, len-meaning n p, same_length);
} where
  same_length : length n.entries ≡ length m.entries
  same_length = sym (length-map n.entries (λ e. e.0)) ∙ ap length same ∙ length-map m.entries (λ e. e.0)

-- what is so in any case is so of a refusal
pub on_err : {X E : Type 0} (r : Result X E) (P : Type 0) → P → OnErr r P
on_err (Ok x) P p = tt
on_err (Err e) P p = p

room_of_new : (there few : Bool) → (there || few) ≡ true → there ≡ false → few ≡ true
room_of_new true few h new = absurd (true≢false new)
room_of_new false few h new = h

-- room for a new key is room for one entry more
pub few-has_room : (entries : Entries) (key : List ℕ) → has_room entries key ≡ true → finite.get entries key ≡ None → finite.len entries < 4096
few-has_room entries key room new =
    ltb-true (finite.len entries) 4096 (room_of_new (finite.contains_key entries key) _ room (ap is_some new))

pub meaning-put : (m n : BTreeMap (List ℕ) (List ℕ)) (k v : List ℕ) → IsOrdered order m → IsOrdered order n → Updates order m n k (Some v)
    → has_room (meaning m) k ≡ true → meaning n ≡ put (meaning m) k v
meaning-put m n k v o p u room =
    meaning-insert m n k v o p u ∙ sym (ap (λ b. cond b (finite.insert (meaning m) k v) (meaning m)) room)

-- a removal keeps a tenant's map
pub IsTenantMap-after_remove : (m n : BTreeMap (List ℕ) (List ℕ)) (k : List ℕ) → IsOrdered order m → IsOrdered order n → UpdatesBy order (order k) m n None
    → IsTenantMap (meaning m) → IsTenantMap (meaning n)
IsTenantMap-after_remove m n k o p u is = subst IsTenantMap (sym (meaning-remove m n k o p u)) (IsTenantMap-remove (meaning m) k is)

-- the bytes of an array
pub IsKey-from : (key : List ℕ) → length key ≡ 16 → ((i : ℕ) → get_or key i 0 < 256) → IsKey key
IsKey-from key e bytes = (e, All-from_get_or (λ byte. byte < 256) key 0 (λ i _. bytes i))

pub IsValue-from : (value : List ℕ) → length value ≡ 32 → ((i : ℕ) → get_or value i 0 < 256) → IsValue value
IsValue-from value e bytes = (e, All-from_get_or (λ byte. byte < 256) value 0 (λ i _. bytes i))

-- What an ordered map means, and what its calls do to the meaning.
pub ruleset meanings = (entries-meaning, get-meaning, len-meaning, meaning-unchanged, meaning-put, meaning-remove, meaning-empty, IsTenantMap-empty, IsTenantMap-after_insert, IsTenantMap-after_remove, IsKey-from, IsValue-from, has_room-few, has_room-full, on_err, few-has_room)
