-- Internal: tables that are read off by their keys.
use Rattle.std.specs.Prelude.{◌≡◌, ◌||◌, Bool, false, List, [], ◌∷◌, Option, Some, None}
use Rattle.std.specs.Ordering.{nat_cmp, eq_by_cmp}
use Rattle.std.specs.Cmp.Lexicographic.{slice_cmp}
use Rattle.pbft_model.specs.Tables.{Key, Table, with_entry}

abbrev pub and_entry : {X : Type 0} → Key → Option X → Table X → Table X
and_entry k None table = table
and_entry k (Some x) table = with_entry table k x

abbrev pub is_among : Key → List Key → Bool
is_among q [] = false
is_among q (k ∷ ks) = eq_by_cmp (slice_cmp nat_cmp) q k || is_among q ks

-- the table with these keys, where they have a value
abbrev pub table_by : {X : Type 0} → (Key → Option X) → List Key → Table X
table_by value [] = []
table_by value (k ∷ ks) = and_entry k (value k) (table_by value ks)

-- only these keys have a value
abbrev pub Covers : {X : Type 0} → (Key → Option X) → List Key → Type 0
Covers value ks = (q : Key) → is_among q ks ≡ false → value q ≡ None
