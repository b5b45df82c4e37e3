-- Statement: how a script that was read is run, and where the line of its fault stands.
use Rattle.std.specs.Prelude.{◌≡◌, ◌≢◌, ℕ, ◌<◌, List, [], length, Option, Some, None, Result, Ok, Err, IfSome, Vec, ◌⊎◌}
use Rattle.std.specs.Io.KnownBytes.{Appends}
use Rattle.std.specs.declared.alloc.Global.{Global}
use Rattle.script_text.specs.ScriptFault.{ScriptFault}
use Rattle.script_text.specs.ScriptKind.{ScriptKind}
use Rattle.script_text.specs.ScriptKind.TheVariants as kinds
use Rattle.script_text.specs.declared.script.Script.{Script}
use Rattle.world_script.specs.Expecting.{IsUnexpected, MayPrint, Scene, differing_line, first_scene, unexpected_line}
use Rattle.world_script.specs.Scripts.{BreaksOff, IsPlayed, fault_line, Plays, WritesBefore}
use Rattle.world_script.specs.Stages.{Begins, Overruns}
use Rattle.world_script.specs.declared.fault.RunFault.{RunFault}
use Rattle.world_script.specs.declared.fault.RunFault.TheVariants.{TooManyDeliveries, Write, Memory}
use Rattle.world_script.specs.declared.played.Played.{Played}
use Rattle.world_script.specs.declared.played.Played.TheVariants.{Whole, Unexpected}
use Rattle.world_script.specs.Writing.{AppendsFront}

-- ---- what is read

-- All bytes, or why not.
abbrev pub ReadsAll : Option (List ℕ) → Result (Vec ℕ Global) ScriptKind → Type 0
ReadsAll known (Ok v) = IfSome known (λ bytes. v.items ≡ bytes)
ReadsAll known (Err kinds.TooLong) = IfSome known (λ bytes. 1048576 < length bytes)
ReadsAll known (Err kinds.Read) = Unit {0}
ReadsAll known (Err kinds.Memory) = Unit {0}
ReadsAll known (Err kinds.NotToml) = ⊥
ReadsAll known (Err kinds.MissingKey) = ⊥
ReadsAll known (Err kinds.WrongValue) = ⊥
ReadsAll known (Err kinds.UnknownKey) = ⊥
ReadsAll known (Err kinds.BadConfig) = ⊥
ReadsAll known (Err kinds.TooManyDeliveries) = ⊥
ReadsAll known (Err kinds.Write) = ⊥

-- ---- the steps

-- How the steps of a script end that don't all run; a failed write leaves the first bytes of their lines.
abbrev pub Fails : ScriptKind → Script → ℕ → Option (List ℕ) → Option (List ℕ) → Type 0
Fails kinds.TooManyDeliveries script number old new =
    (text : List ℕ) × BreaksOff (first_scene script.head) script.steps number (λ s. Overruns s.stage) text × Appends old new text
Fails kinds.Memory script number old new =
    (text : List ℕ) × (((text ≡ []) × (number ≡ 0)) ⊎ BreaksOff (first_scene script.head) script.steps number (λ s. Begins s.stage) text) × Appends old new text
Fails kinds.Write script number old new = (text : List ℕ) × BreaksOff (first_scene script.head) script.steps number (MayPrint number) text × AppendsFront old new text
Fails _ script number old new = ⊥

-- These lines and what was printed since the last `expect` are compared; or that ends the run.
abbrev pub Compares : ℕ → List ℕ → List ℕ → Option (List ℕ) → Option (List ℕ) → Result Played RunFault → List ℕ → Type 0
Compares number expected unread old new (Ok Whole) later = (differing_line expected unread ≡ None) × (later ≡ []) × (new ≡ old)
Compares number expected unread old new (Ok Unexpected) later =
    (line : ℕ) × (differing_line expected unread ≡ Some line) × Appends old new (unexpected_line number line)
Compares number expected unread old new (Err TooManyDeliveries) later = ⊥
Compares number expected unread old new (Err Memory) later = new ≡ old
Compares number expected unread old new (Err Write) later =
    (line : ℕ) × (differing_line expected unread ≡ Some line) × AppendsFront old new (unexpected_line number line)

abbrev pub RunsSteps : Script → Option (List ℕ) → Option (List ℕ) → Result Played ScriptFault → Type 0
RunsSteps script old new (Ok Whole) = (text : List ℕ) × (t : Scene) × Plays (first_scene script.head) script.steps text t × Appends old new text
RunsSteps script old new (Ok Unexpected) =
    (text : List ℕ) × ((number : ℕ) × BreaksOff (first_scene script.head) script.steps number (IsUnexpected number) text) × Appends old new text
RunsSteps script old new (Err fault) = Fails fault.kind script fault.step old new

-- ---- the whole

abbrev pub StopsAt : ScriptKind → List ℕ → ScriptFault → Option (List ℕ) → Option (List ℕ) → Type 0
StopsAt kinds.Write input fault old new = (text : List ℕ) × WritesBefore kinds.Write input fault text × AppendsFront old new text
StopsAt kinds.NotToml input fault old new = (text : List ℕ) × WritesBefore kinds.NotToml input fault text × Appends old new text
StopsAt kinds.MissingKey input fault old new = (text : List ℕ) × WritesBefore kinds.MissingKey input fault text × Appends old new text
StopsAt kinds.WrongValue input fault old new = (text : List ℕ) × WritesBefore kinds.WrongValue input fault text × Appends old new text
StopsAt kinds.UnknownKey input fault old new = (text : List ℕ) × WritesBefore kinds.UnknownKey input fault text × Appends old new text
StopsAt kinds.BadConfig input fault old new = (text : List ℕ) × WritesBefore kinds.BadConfig input fault text × Appends old new text
StopsAt kinds.TooLong input fault old new = (text : List ℕ) × WritesBefore kinds.TooLong input fault text × Appends old new text
StopsAt kinds.TooManyDeliveries input fault old new = (text : List ℕ) × WritesBefore kinds.TooManyDeliveries input fault text × Appends old new text
StopsAt kinds.Read input fault old new = (text : List ℕ) × WritesBefore kinds.Read input fault text × Appends old new text
StopsAt kinds.Memory input fault old new = (text : List ℕ) × WritesBefore kinds.Memory input fault text × Appends old new text

abbrev pub PlaysInput : List ℕ → Option (List ℕ) → Option (List ℕ) → Result Played ScriptFault → Type 0
PlaysInput input old new (Ok played) = (text : List ℕ) × IsPlayed played input text × Appends old new text
PlaysInput input old new (Err fault) = StopsAt fault.kind input fault old new

abbrev pub PlaysWhatIsRead : Option (List ℕ) → Option (List ℕ) → Option (List ℕ) → Result Played ScriptFault → Type 0
PlaysWhatIsRead input old new result = IfSome input (λ bytes. PlaysInput bytes old new result)

-- The fault is reported, with its line; or the write of this line fails, and that is the fault. A failed write has no line.
abbrev pub Reports : ScriptFault → Option (List ℕ) → Option (List ℕ) → ScriptFault → Type 0
Reports fault old new reported =
    ((fault.kind ≡ kinds.Write) × (reported ≡ fault) × (new ≡ old))
    ⊎ ((fault.kind ≢ kinds.Write) × (((reported ≡ fault) × Appends old new (fault_line fault))
    ⊎ ((reported ≡ record { kind = kinds.Write; step = fault.step }) × AppendsFront old new (fault_line fault))))

-- A script that was read is run. Where that ends with a fault, its line stands behind what the steps print.
abbrev pub RunsRead : Script → Option (List ℕ) → Option (List ℕ) → Result Played ScriptFault → Type 0
RunsRead script old new (Ok played) = RunsSteps script old new (Ok played)
RunsRead script old new (Err reported) =
    (fault : ScriptFault) × (between : Option (List ℕ)) × RunsSteps script old between (Err fault) × Reports fault between new reported
