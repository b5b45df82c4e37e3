-- Statement: what the exports over maps answer. Of several things that are wrong with a call the first one is told: that the
-- handle holds no map, then a key of another length than 16 bytes, then a value of another length than 32.
use Rattle.std.specs.Prelude.{ℕ, ◌==◌, if◌then◌else◌, List, length, Option, Some, None}
use Rattle.std.specs.FinMap as map
use Rattle.tenant_maps.specs.Entries.{Entries, has_room, next_key}
use Rattle.sandbox_c.specs.declared.status.Status.{Status}
use Rattle.sandbox_c.specs.declared.status.Status.TheVariants.{Done, NoMap, NoKey, NoValue, NoEntry, MapFull}

abbrev found_status : Option (List ℕ) → Status
found_status None = NoEntry
found_status (Some found) = Done

-- Reading the value at a key, into so many bytes.
abbrev pub get_status : Option Entries → List ℕ → ℕ → Status
get_status None key room = NoMap
get_status (Some entries) key room =
    if length key == 16 then (if room == 32 then found_status (map.get entries key) else NoValue) else NoKey

-- Writing the value at a key.
abbrev pub put_status : Option Entries → List ℕ → List ℕ → Status
put_status None key value = NoMap
put_status (Some entries) key value =
    if length key == 16 then (if length value == 32 then (if has_room entries key then Done else MapFull) else NoValue)
    else NoKey

-- Taking out the entry of a key.
abbrev pub del_status : Option Entries → List ℕ → Status
del_status None key = NoMap
del_status (Some entries) key =
    if length key == 16 then (if map.contains_key entries key then Done else NoEntry) else NoKey

-- Reading the least key above another, into so many bytes.
abbrev pub next_status : Option Entries → List ℕ → ℕ → Status
next_status None key room = NoMap
next_status (Some entries) key room =
    if length key == 16 then (if room == 16 then found_status (next_key entries key) else NoKey) else NoKey

-- Counting the entries.
abbrev pub len_status : Option Entries → Status
len_status None = NoMap
len_status (Some entries) = Done
