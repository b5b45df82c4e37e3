-- Statement: what each helper does, given the bytes that it read, the entries of the tenant's map, the output so far and
-- the client that calls.
use Rattle.std.specs.Prelude.{◌≡◌, ℕ, ◌+◌, nat_le, if◌then◌else◌, List, [], ◌∷◌, ◌++◌, length, replicate, take, drop, Option, Some, None}
use Rattle.std.specs.FinMap as map
use Rattle.tenant_maps.specs.Entries.{Entries, has_room, put, next_key}
use Rattle.map_helpers.specs.declared.helper.Access.{Access}
use Rattle.map_helpers.specs.declared.helper.Extent.{Extent}
use Rattle.map_helpers.specs.declared.helper.Extent.TheVariants.{Fixed, Second}
use Rattle.map_helpers.specs.declared.helper.Helper.{Helper}
use Rattle.map_helpers.specs.declared.helper.Helper.TheVariants.{Get, Put, Del, Len, Next, Emit, Caller}
use Rattle.map_helpers.specs.declared.effects.Written.{Written}
use Rattle.map_helpers.specs.declared.effects.Written.TheVariants as written

-- What a helper acts on: the entries of the tenant's map, the output so far, and the client that calls.
pub record Context : Type 0 where
  pub entries : Entries
  pub output : List ℕ
  pub client : ℕ

-- What a helper does: its answer, which is r0's, the bytes that it writes, and the entries and the output that it leaves.
pub record Effect : Type 0 where
  pub answer : ℕ
  pub written : List ℕ
  pub entries : Entries
  pub output : List ℕ

abbrev pub context_of : Entries → List ℕ → ℕ → Context
context_of entries output client = record { entries = entries; output = output; client = client }

abbrev pub effect : ℕ → List ℕ → Entries → List ℕ → Effect
effect answer bytes entries output = record { answer = answer; written = bytes; entries = entries; output = output }

-- Writes what was found, and answers 0; where nothing was, so many zeros, and answers 1.
abbrev pub lookup_effect : Context → ℕ → Option (List ℕ) → Effect
lookup_effect c size (Some found) = effect 0 found c.entries c.output
lookup_effect c size None = effect 1 (replicate size 0) c.entries c.output

-- Gives the key the value, and answers 0. Where the key is new and the map is full, leaves it and answers 1.
abbrev pub put_effect : Context → List ℕ → List ℕ → Effect
put_effect c key value = effect (if has_room c.entries key then 0 else 1) [] (put c.entries key value) c.output

-- Takes the key out of the map. Answers 0 where it was there, else 1.
abbrev pub del_effect : Context → List ℕ → Effect
del_effect c key = effect (if map.contains_key c.entries key then 0 else 1) [] (map.remove c.entries key) c.output

-- Appends the bytes to the output, and answers 0. Where the output would have more than 256, leaves it and answers 1.
abbrev pub emit_effect : Context → List ℕ → Effect
emit_effect c bytes =
    if nat_le (length c.output + length bytes) 256 then effect 0 [] c.entries (c.output ++ bytes)
    else effect 1 [] c.entries c.output

-- What a helper does, given the bytes that it read, those of one access behind those of the other.
-- Get writes the value of the key. Put reads a key and a value. Len answers the number of entries. Next writes the least
-- key that is greater than the one it read, in the order of their bytes. Caller answers the client.
abbrev pub effect_of : Helper → Context → List ℕ → Effect
effect_of Get c key = lookup_effect c 32 (map.get c.entries key)
effect_of Put c bytes = put_effect c (take 16 bytes) (drop 16 bytes)
effect_of Del c key = del_effect c key
effect_of Len c bytes = effect (map.len c.entries) [] c.entries c.output
effect_of Next c key = lookup_effect c 16 (next_key c.entries key)
effect_of Emit c bytes = emit_effect c bytes
effect_of Caller c bytes = effect c.client [] c.entries c.output

-- ---- what code hands over

-- Bytes that an access can have read: as many as it says, where that isn't left to r2.
abbrev pub HasExtent : Extent → List ℕ → Type 0
HasExtent (Fixed n) bytes = length bytes ≡ n
HasExtent Second bytes = Unit {0}

-- Bytes that the first and the second of these accesses can have read. One that isn't there reads none.
abbrev pub AreRead : List Access → List ℕ → List ℕ → Type 0
AreRead [] first second = (first ≡ []) × (second ≡ [])
AreRead (a ∷ []) first second = HasExtent a.size first × (second ≡ [])
AreRead (a ∷ b ∷ rest) first second = HasExtent a.size first × HasExtent b.size second

-- The bytes of what a helper writes.
abbrev pub written_bytes : Written → List ℕ
written_bytes written.Nothing = []
written_bytes (written.Key key) = key
written_bytes (written.Value value) = value
