-- Statement: what becomes of a replica's standing, and what a row does.
use Rattle.std.specs.Prelude.{◌==◌, Bool, true, false, not, ◌&&◌, ◌||◌, List, [], ◌∷◌, ◌++◌, map, Option, Some, None, if◌then◌else◌}
use Rattle.host_types.specs.declared.ReplicaId.{ReplicaId}
use Rattle.replica_core.specs.Facts.{RowFacts}
use Rattle.replica_core.specs.declared.halt.Halt.{Halt}
use Rattle.replica_core.specs.declared.replica.Status.{Status}
use Rattle.replica_core.specs.declared.row.Done.{Done}
use Rattle.replica_core.specs.declared.row.Done.TheVariants as dones
use Rattle.world_lines.specs.declared.standing.Standing.{Standing}
use Rattle.world_lines.specs.declared.happening.Happening.{Happening}
use Rattle.world_lines.specs.declared.happening.Happening.TheVariants as happens

-- what there is in a case
abbrev pub where_so : Bool → Happening → List Happening
where_so so h = if so then h ∷ [] else []

-- another view, or another state in it
abbrev pub is_new : Status → Status → Bool
is_new before after = not (before.view.0 == after.view.0)

abbrev pub halts_now : ReplicaId → Option Halt → Option Halt → List Happening
halts_now at before None = []
halts_now at None (Some halt) = happens.Halted at halt ∷ []
halts_now at (Some earlier) (Some halt) = []

-- It left its view, entered one, raised its low mark, halted.
abbrev pub changes : Standing → List Happening
changes s =
    where_so (not s.after.active && (s.before.active || is_new s.before s.after)) (happens.Left s.at s.after.view)
    ++ (where_so (s.after.active && (not s.before.active || is_new s.before s.after)) (happens.Entered s.at s.after.view)
    ++ (where_so (not (s.before.low.0 == s.after.low.0)) (happens.Raised s.at s.after.low)
    ++ halts_now s.at s.before.halted s.after.halted))

-- the same of a replica that may be no correct one
abbrev pub changes_from : ReplicaId → Option Status → Option Status → List Happening
changes_from at None after = []
changes_from at (Some before) None = []
changes_from at (Some before) (Some after) = changes (record { at = at; before = before; after = after })

-- What it did to its state, in order.
abbrev pub doing : ReplicaId → Done → Happening
doing at (dones.Executed number digest result) = happens.Executed at number
doing at (dones.Installed number digest) = happens.Installed at number

abbrev pub doings : ReplicaId → Option RowFacts → List Happening
doings at None = []
doings at (Some row) = map (doing at) row.done
