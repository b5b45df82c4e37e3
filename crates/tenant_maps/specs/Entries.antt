-- Statement: a tenant's map, and what reading and changing it gives.
use Rattle.std.specs.Prelude.{ℕ, ◌<◌, ◌≤◌, ◌≡◌, Bool, ◌||◌, cond, nat_lt, List, length, All, Option, find}
use Rattle.std.specs.Ordering.{nat_cmp, is_lt}
use Rattle.std.specs.Cmp.Lexicographic.{slice_cmp}
use Rattle.std.specs.FinMap as map

-- A tenant's map, from keys to values, both lists of bytes.
abbrev pub Entries : Type 0
Entries = map.FinMap (slice_cmp nat_cmp) (List ℕ)

-- A key: 16 bytes.
abbrev pub IsKey : List ℕ → Type 0
IsKey key = (length key ≡ 16) × All (λ byte. byte < 256) key

-- A value: 32 bytes.
abbrev pub IsValue : List ℕ → Type 0
IsValue value = (length value ≡ 32) × All (λ byte. byte < 256) value

-- A map as a tenant can have it: keys of 16 bytes, values of 32, at most 4,096 entries.
pub record IsTenantMap (entries : Entries) : Type 0 where
  pub keys : All IsKey (map.keys entries)
  pub values : All IsValue (map.values entries)
  pub count : map.len entries ≤ 4096

-- Whether the key can be written: it is in the map already, or the map has room for one entry more.
abbrev pub has_room : Entries → List ℕ → Bool
has_room entries key = map.contains_key entries key || nat_lt (map.len entries) 4096

-- The map after the key was written: as it was, where there was no room.
abbrev pub put : Entries → List ℕ → List ℕ → Entries
put entries key value = cond (has_room entries key) (map.insert entries key value) entries

-- The least key greater than this one, in the order of the bytes: the first such, since the keys ascend.
abbrev pub next_key : Entries → List ℕ → Option (List ℕ)
next_key entries key = find (λ other. is_lt (slice_cmp nat_cmp key other)) (map.keys entries)
