-- Statement: what a handle holds.
use Rattle.std.specs.Prelude.{ℕ, List, Option, Some, None, option_and_then}
use Rattle.tenant_maps.specs.Entries.{Entries}
use Rattle.sandbox_c.specs.declared.held.Held.{Held}
use Rattle.sandbox_c.specs.declared.held.Held.TheVariants as held

-- The entries, of a map.
abbrev pub entries_of : Held → Option Entries
entries_of (held.Map m) = Some m.entries
entries_of _ = None

-- The code, of a procedure.
abbrev pub code_of : Held → Option (List ℕ)
code_of (held.Procedure p) = Some p.bytes
code_of _ = None

-- The entries of the map inside a handle.
abbrev pub map_in : Option Held → Option Entries
map_in inside = option_and_then entries_of inside

-- The code of the procedure inside a handle.
abbrev pub code_in : Option Held → Option (List ℕ)
code_in inside = option_and_then code_of inside
