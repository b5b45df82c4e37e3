-- Statement: what a script writes.
use Rattle.std.specs.Prelude.{◌≡◌, ◌≢◌, ℕ, ◌+◌, ◌≤◌, min, List, [], ◌∷◌, ◌++◌, length, codes, Option, Result, Ok, Err, IfSome, ◌⊎◌}
use Rattle.std.specs.Io.KnownBytes.{Appends}
use Rattle.script_text.specs.Faults.{text_of}
use Rattle.script_text.specs.Scripts.{document, script_of, steps_listed}
use Rattle.script_text.specs.ScriptFault.{ScriptFault}
use Rattle.script_text.specs.ScriptKind.{ScriptKind}
use Rattle.script_text.specs.ScriptKind.TheVariants as kinds
use Rattle.script_text.specs.declared.script.Script.{Script}
use Rattle.script_text.specs.declared.script.NamedStep.{NamedStep}
use Rattle.script_text.specs.declared.script.Step.{Step}
use Rattle.world_script.specs.Expecting.{Holds, IsUnexpected, MayPrint, Scene, behind, first_scene}
use Rattle.world_script.specs.Facts.{StageFacts}
use Rattle.world_script.specs.Stages.{Begins, Overruns, Prints}
use Rattle.world_script.specs.declared.played.Played.{Played}
use Rattle.world_script.specs.declared.played.Played.TheVariants.{Whole, Unexpected}
use Rattle.world_script.specs.Writing.{AppendsFront}

-- Steps one after another: what they print, and what is held then. Each `expect` finds its lines.
abbrev pub Plays : Scene → List NamedStep → List ℕ → Scene → Type 0
Plays s [] text t = (text ≡ []) × (t ≡ s)
Plays s (x ∷ xs) text t =
    (line more : List ℕ) × (u : StageFacts) × Prints s.stage x.step line u × Holds s.unread x.step
    × Plays (behind s x line u) xs more t × (text ≡ line ++ more)

-- the number of the step behind so many
abbrev pub step_number : ℕ → ℕ
step_number n = min (n + 1) 4_294_967_295

-- A step breaks off, after those before it were done.
pub record BreaksOff (start : Scene) (steps : List NamedStep) (number : ℕ) (Early : Scene → Step → List ℕ → Type 0) (text : List ℕ) : Type 0 where
  pub before : List NamedStep
  pub step : NamedStep
  pub after : List NamedStep
  pub splits : steps ≡ before ++ step ∷ after
  pub number_is : number ≡ step_number (length before)
  pub front : List ℕ
  pub last : List ℕ
  pub scene : Scene
  pub plays : Plays start before front scene
  pub early : Early scene step.step last
  pub text_is : text ≡ front ++ last

-- The text is a script, of which a step breaks off.
pub record Breaks (input : List ℕ) (number : ℕ) (Early : Scene → Step → List ℕ → Type 0) (text : List ℕ) : Type 0 where
  pub script : Script
  pub is : script_of input ≡ Ok script
  pub off : BreaksOff (first_scene script.head) script.steps number Early text

abbrev pub IsRefused : List ℕ → ScriptFault → List ℕ → Type 0
IsRefused input fault text = (script_of input ≡ Err fault) × (text ≡ [])

-- Memory ran out before the first step ran: the step is none, or one that was being read.
abbrev pub IsStarved : List ℕ → ℕ → List ℕ → Type 0
IsStarved input number text = (text ≡ []) × (number ≤ steps_listed (document input))

-- What was written ahead of the line of a fault.
abbrev pub WritesBefore : ScriptKind → List ℕ → ScriptFault → List ℕ → Type 0
WritesBefore kinds.TooManyDeliveries input fault text = Breaks input fault.step (λ s. Overruns s.stage) text
WritesBefore kinds.Read input fault text = (fault.step ≡ 0) × (text ≡ [])
WritesBefore kinds.Write input fault text = Breaks input fault.step (MayPrint fault.step) text
WritesBefore kinds.Memory input fault text = IsStarved input fault.step text ⊎ Breaks input fault.step (λ s. Begins s.stage) text
WritesBefore _ input fault text = IsRefused input fault text

-- the whole run of a script
pub record IsRun (input text : List ℕ) : Type 0 where
  pub script : Script
  pub is : script_of input ≡ Ok script
  pub last : Scene
  pub plays : Plays (first_scene script.head) script.steps text last

-- A run without a fault: the whole one, or one that ends at an `expect` that finds other lines.
abbrev pub IsPlayed : Played → List ℕ → List ℕ → Type 0
IsPlayed Whole input text = IsRun input text
IsPlayed Unexpected input text = (number : ℕ) × Breaks input number (IsUnexpected number) text

abbrev pub fault_line : ScriptFault → List ℕ
fault_line fault = text_of fault ++ codes "\n"

-- A fault's line behind what was written ahead of it. The line of a failed write is not written.
pub record ReportsFault (input : List ℕ) (step : ℕ) (text : List ℕ) : Type 0 where
  pub fault : ScriptFault
  pub is_reported : fault.kind ≢ kinds.Write
  pub step_is : fault.step ≡ step
  pub front : List ℕ
  pub before : WritesBefore fault.kind input fault front
  pub text_is : text ≡ front ++ fault_line fault

-- What was to be written where a write fails: what steps print up to the one that breaks off, or a fault with its line.
abbrev pub IsUnwritten : List ℕ → ScriptFault → List ℕ → Type 0
IsUnwritten input fault text = WritesBefore kinds.Write input fault text ⊎ ReportsFault input fault.step text

-- With its line; where a write failed, the first bytes of what was to be written.
abbrev pub WritesFault : ScriptKind → List ℕ → ScriptFault → Option (List ℕ) → Option (List ℕ) → Type 0
WritesFault kinds.Write input fault old new = (text : List ℕ) × IsUnwritten input fault text × AppendsFront old new text
WritesFault kinds.NotToml input fault old new = (text : List ℕ) × WritesBefore kinds.NotToml input fault text × Appends old new (text ++ fault_line fault)
WritesFault kinds.MissingKey input fault old new = (text : List ℕ) × WritesBefore kinds.MissingKey input fault text × Appends old new (text ++ fault_line fault)
WritesFault kinds.WrongValue input fault old new = (text : List ℕ) × WritesBefore kinds.WrongValue input fault text × Appends old new (text ++ fault_line fault)
WritesFault kinds.UnknownKey input fault old new = (text : List ℕ) × WritesBefore kinds.UnknownKey input fault text × Appends old new (text ++ fault_line fault)
WritesFault kinds.BadConfig input fault old new = (text : List ℕ) × WritesBefore kinds.BadConfig input fault text × Appends old new (text ++ fault_line fault)
WritesFault kinds.TooLong input fault old new = (text : List ℕ) × WritesBefore kinds.TooLong input fault text × Appends old new (text ++ fault_line fault)
WritesFault kinds.TooManyDeliveries input fault old new = (text : List ℕ) × WritesBefore kinds.TooManyDeliveries input fault text × Appends old new (text ++ fault_line fault)
WritesFault kinds.Read input fault old new = (text : List ℕ) × WritesBefore kinds.Read input fault text × Appends old new (text ++ fault_line fault)
WritesFault kinds.Memory input fault old new = (text : List ℕ) × WritesBefore kinds.Memory input fault text × Appends old new (text ++ fault_line fault)

-- What a run of this input wrote: what its script prints; what a part of it prints and then the line of an `expect` or of its
-- fault; or the first bytes of such a text, where a write failed.
abbrev pub Writes : List ℕ → Option (List ℕ) → Option (List ℕ) → Result Played ScriptFault → Type 0
Writes input old new (Ok played) = (text : List ℕ) × IsPlayed played input text × Appends old new text
Writes input old new (Err fault) = WritesFault fault.kind input fault old new

-- The same, where the bytes of the reader are known.
abbrev pub WritesWhatIsRead : Option (List ℕ) → Option (List ℕ) → Option (List ℕ) → Result Played ScriptFault → Type 0
WritesWhatIsRead input old new result = IfSome input (λ bytes. Writes bytes old new result)
