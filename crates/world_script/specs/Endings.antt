-- Statement: how a step ends, and what a writer holds then.
use Rattle.std.specs.Prelude.{◌≡◌, ℕ, List, Option, Result, Ok, Err, String}
use Rattle.std.specs.Io.KnownBytes.{Appends}
use Rattle.std.specs.String.{string_bytes}
use Rattle.std.specs.declared.alloc.Global.{Global}
use Rattle.script_text.specs.declared.script.NamedStep.{NamedStep}
use Rattle.script_text.specs.declared.script.Step.{Step}
use Rattle.world_script.specs.declared.fault.RunFault.{RunFault}
use Rattle.world_script.specs.declared.fault.RunFault.TheVariants.{TooManyDeliveries, Write, Memory}
use Rattle.world_script.specs.declared.played.Played.{Played}
use Rattle.world_script.specs.declared.played.Played.TheVariants.{Whole, Unexpected}
use Rattle.world_script.specs.Expecting.{Holds, IsUnexpected, MayPrint, Scene, behind}
use Rattle.world_script.specs.Facts.{StageFacts}
use Rattle.world_script.specs.Stages.{Begins, Overruns, Prints}
use Rattle.world_script.specs.Writing.{AppendsFront}

-- A step is done, and its text is given; or it ends early: with whole lines of it where memory ran out, with the first bytes of such where a
-- write failed.
abbrev pub Ends : StageFacts → Step → Option (List ℕ) → Option (List ℕ) → Result (String Global) RunFault → StageFacts → Type 0
Ends s step old new (Ok text) t = Prints s step (string_bytes text) t × Appends old new (string_bytes text)
Ends s step old new (Err TooManyDeliveries) t = (text : List ℕ) × Overruns s step text × Appends old new text
Ends s step old new (Err Memory) t = (text : List ℕ) × Begins s step text × Appends old new text
Ends s step old new (Err Write) t = (text : List ℕ) × Begins s step text × AppendsFront old new text

-- A step that is done, of this number, or that ends the run.
abbrev pub StepEnds : ℕ → Scene → NamedStep → Option (List ℕ) → Option (List ℕ) → Result Played RunFault → Scene → Type 0
StepEnds number s x old new (Ok Whole) t =
    (text : List ℕ) × (u : StageFacts) × Prints s.stage x.step text u × Holds s.unread x.step × (t ≡ behind s x text u) × Appends old new text
StepEnds number s x old new (Ok Unexpected) t = (text : List ℕ) × IsUnexpected number s x.step text × Appends old new text
StepEnds number s x old new (Err TooManyDeliveries) t = (text : List ℕ) × Overruns s.stage x.step text × Appends old new text
StepEnds number s x old new (Err Memory) t = (text : List ℕ) × Begins s.stage x.step text × Appends old new text
StepEnds number s x old new (Err Write) t = (text : List ℕ) × MayPrint number s x.step text × AppendsFront old new text
