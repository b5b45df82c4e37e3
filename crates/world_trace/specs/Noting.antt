-- Internal: how what happened is noted, behind what was noted before.
use Rattle.std.specs.Prelude.{◌≡◌, List, ◌++◌, map, Option}
use Rattle.host_types.specs.declared.ReplicaId.{ReplicaId}
use Rattle.world_chart.specs.Blame.{Blame}
use Rattle.world_chart.specs.Changes.{doings}
use Rattle.world_chart.specs.Happening.{Happening}
use Rattle.world_chart.specs.Happening.TheVariants as happens
use Rattle.world_script.specs.Facts.{RowFacts}
use Rattle.world_trace.specs.Happenings.{MayBlame}

-- What happened so is noted.
abbrev pub Notes : (List Happening → Type 0) → List Happening → List Happening → Type 0
Notes what old new = (more : List Happening) × what more × (new ≡ old ++ more)

-- Somebody is blamed, or nobody.
abbrev pub IsBlame : List Happening → Type 0
IsBlame happened = (blamed : List Blame) × (happened ≡ map happens.Blamed blamed)

-- What a row did, and then whom its message blames.
abbrev pub DoesAt : ReplicaId → Option RowFacts → List Happening → Type 0
DoesAt at row happened = (blamed : List Blame) × MayBlame row blamed × (happened ≡ doings at row ++ map happens.Blamed blamed)
