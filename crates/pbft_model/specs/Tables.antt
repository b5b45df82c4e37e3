-- Statement: finite maps from short lists of numbers, as lists of entries in the order of their keys: what
-- `entries` of std's `FinMap` gives. They are read by `find`, changed by `put` and cut by `where_key`.
use Rattle.std.specs.Prelude.{ℕ, Bool, cond, List, [], ◌∷◌, Option, is_some, slice_index, nat_lt, map}
use Rattle.std.specs.Ordering.{nat_cmp}
use Rattle.std.specs.Cmp.Lexicographic.{slice_cmp}
use Rattle.std.specs.FinMap.{find, put}
use Rattle.std.specs.FinMap.Entries.{where_key}

abbrev pub Key : Type 0
Key = List ℕ

abbrev pub Table : Type 0 → Type 0
Table X = List (List ℕ × X)

-- the value at a key
abbrev pub at : {X : Type 0} → Table X → Key → Option X
at table key = find (slice_cmp nat_cmp) key table

abbrev pub with_entry : {X : Type 0} → Table X → Key → X → Table X
with_entry table key x = put (slice_cmp nat_cmp) key x table

-- The value is entered if it is admitted and its key is free: the first counts.
abbrev pub add_if : {X : Type 0} → Bool → Key → X → Table X → Table X
add_if admitted key x table = cond admitted (cond (is_some (at table key)) table (with_entry table key x)) table

-- the entries whose keys pass the test
abbrev pub keep : {X : Type 0} → (Key → Bool) → Table X → Table X
keep test table = where_key (slice_cmp nat_cmp) test table

abbrev pub entries_in : {X : Type 0} → Table X → List X
entries_in table = map (λ e. e.1) table

-- The keys: a vote by number, view and signer, a Checkpoint by number and signer, a ViewChange by view and
-- signer, a certificate and a snapshot by number.
abbrev pub vote_key : ℕ → ℕ → ℕ → Key
vote_key number view signer = number ∷ view ∷ signer ∷ []

abbrev pub checkpoint_key : ℕ → ℕ → Key
checkpoint_key number signer = number ∷ signer ∷ []

abbrev pub change_key : ℕ → ℕ → Key
change_key view signer = view ∷ signer ∷ []

abbrev pub number_key : ℕ → Key
number_key number = number ∷ []

-- what a key begins with: a number, or a ViewChange's view
abbrev pub first_in : Key → ℕ
first_in key = slice_index key 0

-- a vote's view
abbrev pub view_in : Key → ℕ
view_in key = slice_index key 1

-- the keys of numbers above this one
abbrev pub is_above : ℕ → Key → Bool
is_above number key = nat_lt number (first_in key)
