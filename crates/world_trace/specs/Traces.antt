-- Statement: what a trace writes: of each step what is told of it, and then what it prints.
use Rattle.std.specs.Prelude.{◌≡◌, ℕ, ◌+◌, ◌-◌, List, [], ◌∷◌, ◌++◌, length, Option, None, Result, Ok, Err, IfSome, ◌⊎◌, slice_get}
use Rattle.std.specs.List.{flat_map}
use Rattle.std.specs.Io.KnownBytes.{Appends}
use Rattle.script_text.specs.ScriptFault.{ScriptFault}
use Rattle.script_text.specs.ScriptKind.TheVariants as kinds
use Rattle.script_text.specs.Steps.{step_name}
use Rattle.script_text.specs.declared.script.NamedStep.{NamedStep}
use Rattle.script_text.specs.declared.script.Script.{Script}
use Rattle.script_text.specs.declared.script.Step.{Step}
use Rattle.world_chart.specs.Happening.{Happening}
use Rattle.world_chart.specs.Lines.{began_line, happening_line}
use Rattle.world_script.specs.Endings.{StepEnds}
use Rattle.world_script.specs.Expecting.{Scene, first_scene}
use Rattle.world_script.specs.Faults.{kind_of}
use Rattle.world_script.specs.Running.{Reports}
use Rattle.world_script.specs.Scripts.{step_number}
use Rattle.world_script.specs.Seen.{Seen, end_seen}
use Rattle.world_script.specs.Writing.{AppendsFront}
use Rattle.world_script.specs.declared.fault.RunFault.{RunFault}
use Rattle.world_script.specs.declared.fault.RunFault.TheVariants.{Write, Memory}
use Rattle.world_script.specs.declared.played.Played.{Played}
use Rattle.world_script.specs.declared.played.Played.TheVariants.{Whole, Unexpected}
use Rattle.world_trace.specs.Happenings.{AreTold}

-- ---- a step

-- What is told of a step: its mark, with its number, the line of the text on which it stands where that is known, and its
-- name; and a line for each thing that happened: where it is known what was seen, all of that.
pub record IsTold (number : ℕ) (place : Option ℕ) (step : Step) (seen : Option (List Seen)) (told : List ℕ) : Type 0 where
  pub happened : List Happening
  pub is : told ≡ began_line number place (step_name step) ++ flat_map happening_line happened
  pub are_told : IfSome seen (λ xs. AreTold xs happened)

-- Telling ends early, with all that was told: where memory ran out, or, with the first bytes of it, where a write failed.
abbrev pub TellsEarly : ℕ → Option ℕ → Step → Option (List ℕ) → Option (List ℕ) → Result Played RunFault → Type 0
TellsEarly number place step old new (Err Memory) = (told : List ℕ) × ((told ≡ []) ⊎ IsTold number place step None told) × Appends old new told
TellsEarly number place step old new (Err Write) = (told : List ℕ) × IsTold number place step None told × AppendsFront old new told
TellsEarly number place step old new other = ⊥

-- It is told, and then written how the step of this number ends, as a run writes it. All that was seen of it is told, unless memory ran
-- out or a write failed.
pub record IsTraced (number : ℕ) (place : Option ℕ) (s : Scene) (x : NamedStep) (old new : Option (List ℕ)) (result : Result Played RunFault) (t : Scene) : Type 0 where
  pub told : List ℕ
  pub between : Option (List ℕ)
  pub tells : Appends old between told
  pub ends : StepEnds number s x between new result t
  pub is_told : IsTold number place x.step (end_seen number s x between new result t ends) told

abbrev pub StepTraced : ℕ → Option ℕ → Scene → NamedStep → Option (List ℕ) → Option (List ℕ) → Result Played RunFault → Scene → Type 0
StepTraced number place s x old new result t = IsTraced number place s x old new result t ⊎ TellsEarly number place x.step old new result

-- ---- a script

-- the line on which the step of this number stands, of the lines that are known
abbrev pub place_in : List ℕ → ℕ → Option ℕ
place_in lines number = slice_get lines (number - 1)

-- Steps one after another, behind so many: each is done.
abbrev pub Traces : List ℕ → ℕ → Scene → List NamedStep → Option (List ℕ) → Option (List ℕ) → Scene → Type 0
Traces lines n s [] old new t = (new ≡ old) × (t ≡ s)
Traces lines n s (x ∷ xs) old new t =
    (between : Option (List ℕ)) × (u : Scene) × IsTraced (step_number n) (place_in lines (step_number n)) s x old between (Ok Whole) u × Traces lines (n + 1) u xs between new t

-- The step of this number ends the run so, after those before it were done.
pub record TraceEnds (lines : List ℕ) (script : Script) (number : ℕ) (old new : Option (List ℕ)) (result : Result Played RunFault) : Type 0 where
  pub before : List NamedStep
  pub step : NamedStep
  pub after : List NamedStep
  pub splits : script.steps ≡ before ++ step ∷ after
  pub number_is : number ≡ step_number (length before)
  pub between : Option (List ℕ)
  pub scene : Scene
  pub later : Scene
  pub done : Traces lines 0 (first_scene script.head) before old between scene
  pub ends : StepTraced number (place_in lines number) scene step between new result later

-- All steps are done; or an `expect` finds other lines; or a step ends with a fault, or memory runs out ahead of the first one.
abbrev pub TracesSteps : List ℕ → Script → Option (List ℕ) → Option (List ℕ) → Result Played ScriptFault → Type 0
TracesSteps lines script old new (Ok Whole) = (t : Scene) × Traces lines 0 (first_scene script.head) script.steps old new t
TracesSteps lines script old new (Ok Unexpected) = (number : ℕ) × TraceEnds lines script number old new (Ok Unexpected)
TracesSteps lines script old new (Err fault) =
    ((fault ≡ record { kind = kinds.Memory; step = 0 }) × (new ≡ old))
    ⊎ ((why : RunFault) × (kind_of why ≡ fault.kind) × TraceEnds lines script fault.step old new (Err why))

-- The whole. Where it ends with a fault, its line stands behind that.
abbrev pub TracesScript : List ℕ → Script → Option (List ℕ) → Option (List ℕ) → Result Played ScriptFault → Type 0
TracesScript lines script old new (Ok played) = TracesSteps lines script old new (Ok played)
TracesScript lines script old new (Err reported) =
    (fault : ScriptFault) × (between : Option (List ℕ)) × TracesSteps lines script old between (Err fault) × Reports fault between new reported
