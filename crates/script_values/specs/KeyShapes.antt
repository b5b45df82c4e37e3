-- Statement: how the keys of a script's replicas are made.
use Rattle.std.specs.Prelude.{ℕ, nat_le, Bool, codes, List, [], ◌∷◌, length, slice_get, Option, Some, None, Result, Ok, Err, if◌then◌else◌}
use Rattle.std.specs.List.{list_all, range_with_len}
use Rattle.lms_tree.specs.SigningState.{total_of}
use Rattle.lms_tree.specs.declared.Height.{Height}
use Rattle.lms_tree.specs.declared.Height.TheVariants.{H5}
use Rattle.script_values.specs.Forms.{bottom, height, optional_key, pair_of, per_replica, up_to}
use Rattle.script_values.specs.declared.fault.TableFault.{TableFault}
use Rattle.script_values.specs.declared.fault.TableFault.TheVariants.{WrongValue}
use Rattle.script_values.specs.declared.replica_keys.KeyLists.{KeyLists}
use Rattle.script_values.specs.declared.replica_keys.KeyShape.{KeyShape}
use Rattle.toml.specs.Data.{Data, Members}

-- what is given, or else this
abbrev pub given_or : {A : Type 0} → Option A → A → A
given_or None other = other
given_or (Some x) other = x

-- a replica's entry, or else this
abbrev pub entry_at : {A : Type 0} → Option (List A) → ℕ → A → A
entry_at None id other = other
entry_at (Some xs) id other = given_or (slice_get xs id) other

-- a key with no leaf used: the height of its one tree or of its top tree, and that of its bottom trees if it has two levels
abbrev pub unspent : Height → Option Height → KeyShape
unspent height bottom = record { height = height; bottom = bottom; spent = 0 }

-- a replica's key: of one tree of height 5 where nothing is given, with no leaf used
abbrev pub shape_at : KeyLists → ℕ → KeyShape
shape_at keys id = record { height = entry_at keys.heights id H5; bottom = entry_at keys.bottoms id None; spent = entry_at keys.spent id 0 }

-- how many signatures a key gives in all
abbrev pub leaves_of : KeyShape → ℕ
leaves_of shape = total_of shape.height shape.bottom

abbrev pub has_leaves : KeyShape → Bool
has_leaves shape = nat_le shape.spent (leaves_of shape)

abbrev pub count_of : {A : Type 0} → Option (List A) → ℕ
count_of None = 0
count_of (Some xs) = length xs

-- no more leaves are used than a key has
abbrev pub can_be_spent : KeyLists → Bool
can_be_spent keys = list_all (λ id. has_leaves (shape_at keys id)) (range_with_len 0 (count_of keys.spent))

-- ---- what is read

-- the keys of a head that are such lists
abbrev pub key_lists : List (List ℕ)
key_lists = codes "heights" ∷ codes "bottom" ∷ codes "spent" ∷ []

-- a list has an entry for each of the replicas, where their number is known
abbrev pub optional_list : {A : Type 0} → (Data → Result A TableFault) → List ℕ → Option ℕ → Members → Result (Option (List A)) TableFault
optional_list form key count members = optional_key (per_replica count form) key members

-- what is said of the replicas' keys, if they have the leaves that are used
abbrev pub if_spendable : KeyLists → Result KeyLists TableFault
if_spendable keys = if can_be_spent keys then Ok keys else Err WrongValue

abbrev pub keys_from : Result (Option (List Height) × (Option (List (Option Height)) × Option (List ℕ))) TableFault → Result KeyLists TableFault
keys_from (Ok r) = if_spendable (record { heights = r.0; bottoms = r.1.0; spent = r.1.1 })
keys_from (Err fault) = Err fault

abbrev pub keys_in : Option ℕ → Members → Result KeyLists TableFault
keys_in count members =
    keys_from (pair_of (optional_list height (codes "heights") count members)
    (pair_of (optional_list bottom (codes "bottom") count members) (optional_list (up_to 2048) (codes "spent") count members)))
