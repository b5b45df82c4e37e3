-- Internal: how what is told of a step, and what it printed, is written.
use Rattle.std.specs.Prelude.{◌≡◌, ◌≢◌, ℕ, List, [], ◌++◌, Option, Some, Result, Err, ◌⊎◌, take}
use Rattle.std.specs.List.{flat_map}
use Rattle.std.specs.Io.KnownBytes.{Appends}
use Rattle.script_text.specs.declared.script.NamedStep.{NamedStep}
use Rattle.world_chart.specs.Happening.{Happening}
use Rattle.world_chart.specs.Lines.{happening_line}
use Rattle.world_script.specs.Expecting.{Scene}
use Rattle.world_script.specs.Seen.{Seen, StepTells}
use Rattle.world_script.specs.Writing.{AppendsFront}
use Rattle.world_script.specs.declared.fault.RunFault.{RunFault}
use Rattle.world_script.specs.declared.fault.RunFault.TheVariants.{TooManyDeliveries, Write, Memory}
use Rattle.world_script.specs.declared.played.Played.{Played}
use Rattle.world_trace.specs.Happenings.{AreTold}

-- a mark, and the lines of the first so many things that happened
abbrev pub told_until : List ℕ → List Happening → ℕ → List ℕ
told_until mark happened n = mark ++ flat_map happening_line (take n happened)

-- Some of the lines are written: whole ones where memory ran out.
abbrev pub TellsSome : List ℕ → List Happening → Option (List ℕ) → Option (List ℕ) → RunFault → Type 0
TellsSome mark happened old new Memory = (n : ℕ) × Appends old new (told_until mark happened n)
TellsSome mark happened old new Write = (n : ℕ) × AppendsFront old new (told_until mark happened n)
TellsSome mark happened old new TooManyDeliveries = ⊥

-- What was seen is what is noted.
abbrev pub AreNoted : List Happening → List Seen → Type 0
AreNoted happened seen = AreTold seen happened

-- A step is run, of which one who watches is told, and prints into memory, to these bytes; or that has no room for what it prints.
pub record RunsInMemory (number : ℕ) (s : Scene) (x : NamedStep) (old new : List ℕ) (result : Result Played RunFault) (t : Scene) (told later : List Seen → Type 0) : Type 0 where
  pub runs : ((result ≢ Err Write) × StepTells number s x (Some old) (Some new) result t told later) ⊎ ((result ≡ Err Memory) × (new ≡ []))

-- What was printed into memory is written whole, and the step ended so; or its first bytes are.
abbrev pub PassesOn : Result Played RunFault → List ℕ → Option (List ℕ) → Option (List ℕ) → Result Played RunFault → Type 0
PassesOn ended printed old new result =
    ((result ≡ ended) × Appends old new printed) ⊎ ((result ≡ Err Write) × AppendsFront old new printed)
