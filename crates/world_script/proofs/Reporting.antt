-- How a run of a script ends, and the line of its fault.
use Rattle.std.proofs.Common.{◌≡◌, ◌≤◌, ◌⊎◌, ℕ, List, [], ◌++◌, Option, Some, None, Result, Ok, Err, refl, sym, subst, inl, inr, arith}
use Rattle.std.specs.Prelude.{IfSome}
use Rattle.std.specs.Io.KnownBytes.{Appends}
use Rattle.script_text.specs.Scripts.{document, script_of, steps_listed}
use Rattle.script_text.specs.ScriptFault.{ScriptFault}
use Rattle.script_text.specs.ScriptKind.{ScriptKind}
use Rattle.script_text.specs.ScriptKind.TheVariants as kinds
use Rattle.script_text.specs.declared.script.Script.{Script}
use Rattle.script_text.specs.declared.script.Step.{Step}
use Rattle.world_script.specs.Running.{Fails, PlaysInput, PlaysWhatIsRead, Reports, RunsSteps, StopsAt}
use Rattle.world_script.specs.Scripts.{BreaksOff, Breaks, IsStarved, Writes, WritesBefore, WritesFault, WritesWhatIsRead, fault_line}
use Rattle.world_script.specs.Expecting.{IsUnexpected, Scene, first_scene}
use Rattle.world_script.specs.Stages.{Begins}
use Rattle.world_script.specs.declared.played.Played.{Played}
use Rattle.world_script.specs.declared.played.Played.TheVariants.{Whole, Unexpected}
use Rattle.script_text.proofs.TextFaults.{IsOfText, is_of_text}
use Rattle.world_script.specs.Writing.{AppendsFront}
use Rattle.world_script.proofs.Written.{both, front_then, nothing}

-- ---- a text that is no script

-- its step is none or one that is listed
abbrev pub IsListed : List ℕ → ScriptFault → Type 0
IsListed input fault = fault.step ≤ steps_listed (document input)

refused_by : (k : ScriptKind) (input : List ℕ) (fault : ScriptFault) (old : Option (List ℕ)) → IsOfText k → script_of input ≡ Err fault → IsListed input fault → StopsAt k input fault old old
refused_by kinds.Memory input fault old of is listed = ([], inl (refl, listed), nothing old)
refused_by kinds.TooManyDeliveries input fault old of is listed = absurd of
refused_by kinds.Read input fault old of is listed = absurd of
refused_by kinds.Write input fault old of is listed = absurd of
refused_by _ input fault old of is listed = ([], (is, refl), nothing old)

abbrev pub LacksMemoryOrIs : List ℕ → ScriptFault → Type 0
LacksMemoryOrIs input fault = (fault.kind ≡ kinds.Memory) ⊎ (script_of input ≡ Err fault)

refused_input : (input : List ℕ) (fault : ScriptFault) (old : Option (List ℕ)) → LacksMemoryOrIs input fault → IsListed input fault → PlaysInput input old old (Err fault)
refused_input input fault old (inl lacks) listed = subst (λ (k : ScriptKind). StopsAt k input fault old old) (sym lacks) ([], inl (refl, listed), nothing old)
refused_input input fault old (inr is) listed = refused_by fault.kind input fault old (is_of_text input fault is) is listed

pub refused : (known : Option (List ℕ)) (bytes : List ℕ) (fault : ScriptFault) (old : Option (List ℕ)) → IfSome known (λ xs. bytes ≡ xs) → LacksMemoryOrIs bytes fault → IsListed bytes fault → PlaysWhatIsRead known old old (Err fault)
refused None bytes fault old same is listed = tt
refused (Some xs) bytes fault old same is listed = subst (λ (input : List ℕ). PlaysInput input old old (Err fault)) same (refused_input bytes fault old is listed)

-- ---- a script that runs

breaks : (input : List ℕ) (script : Script) (number : ℕ) (Early : Scene → Step → List ℕ → Type 0) (text : List ℕ) → script_of input ≡ Ok script → BreaksOff (first_scene script.head) script.steps number Early text → Breaks input number Early text
breaks input script number Early text is off = record { script = script; is = is; off = off }

lacked : (input : List ℕ) (script : Script) (number : ℕ) (text : List ℕ) → script_of input ≡ Ok script → ((text ≡ []) × (number ≡ 0)) ⊎ BreaksOff (first_scene script.head) script.steps number (λ s. Begins s.stage) text
    → IsStarved input number text ⊎ Breaks input number (λ s. Begins s.stage) text
lacked input script number text is (inl (none, first)) = inl (none, omega (arith, first))
lacked input script number text is (inr off) = inr (breaks input script number (λ s. Begins s.stage) text is off)

stops : (k : ScriptKind) (input : List ℕ) (script : Script) (fault : ScriptFault) (old new : Option (List ℕ)) → script_of input ≡ Ok script → Fails k script fault.step old new → StopsAt k input fault old new
stops kinds.TooManyDeliveries input script fault old new is f = (f.0, record { script = script; is = is; off = f.1 }, f.2)
stops kinds.Memory input script fault old new is f = (f.0, lacked input script fault.step f.0 is f.1, f.2)
stops kinds.Write input script fault old new is f = (f.0, record { script = script; is = is; off = f.1 }, f.2)
stops _ input script fault old new is f = absurd f

runs_input : (input : List ℕ) (script : Script) (old new : Option (List ℕ)) (r : Result Played ScriptFault) → script_of input ≡ Ok script → RunsSteps script old new r → PlaysInput input old new r
runs_input input script old new (Ok Whole) is runs = (runs.0, record { script = script; is = is; last = runs.1; plays = runs.2 }, runs.3)
runs_input input script old new (Ok Unexpected) is runs = (runs.0, (runs.1.0, breaks input script runs.1.0 (IsUnexpected runs.1.0) runs.0 is runs.1.1), runs.2)
runs_input input script old new (Err fault) is runs = stops fault.kind input script fault old new is runs

pub runs : (known : Option (List ℕ)) (bytes : List ℕ) (script : Script) (old new : Option (List ℕ)) (r : Result Played ScriptFault) → IfSome known (λ xs. bytes ≡ xs) → script_of bytes ≡ Ok script
    → RunsSteps script old new r → PlaysWhatIsRead known old new r
runs None bytes script old new r same is steps = tt
runs (Some xs) bytes script old new r same is steps = subst (λ (input : List ℕ). PlaysInput input old new r) same (runs_input bytes script old new r is steps)

-- ---- the line of a fault

with_line : (k : ScriptKind) (input : List ℕ) (fault : ScriptFault) (old mid new : Option (List ℕ)) → (k ≡ kinds.Write → ⊥) → StopsAt k input fault old mid → Appends mid new (fault_line fault)
    → WritesFault k input fault old new
with_line kinds.Write input fault old mid new has_line s a = absurd (has_line refl)
with_line _ input fault old mid new has_line s a = (s.0, s.1, both old mid new s.0 (fault_line fault) s.2 a)

-- what was written ahead of the line
ahead : (k : ScriptKind) (input : List ℕ) (fault : ScriptFault) (old mid : Option (List ℕ)) → (k ≡ kinds.Write → ⊥) → StopsAt k input fault old mid
    → (text : List ℕ) × WritesBefore k input fault text × Appends old mid text
ahead kinds.Write input fault old mid has_line s = absurd (has_line refl)
ahead _ input fault old mid has_line s = s

-- the write of the line failed
line_cut : (input : List ℕ) (fault : ScriptFault) (old mid new : Option (List ℕ)) → (fault.kind ≡ kinds.Write → ⊥) → StopsAt fault.kind input fault old mid → AppendsFront mid new (fault_line fault)
    → WritesFault kinds.Write input (record { kind = kinds.Write; step = fault.step }) old new
line_cut input fault old mid new has_line s a =
    let w = ahead fault.kind input fault old mid has_line s in (
      w.0 ++ fault_line fault,
      inr (record { fault = fault; is_reported = has_line; step_is = refl; front = w.0; before = w.1; text_is = refl }),
      front_then old mid new w.0 (fault_line fault) w.2 a,
    )

-- the write of what steps print failed
steps_cut : (k : ScriptKind) (input : List ℕ) (fault : ScriptFault) (old new : Option (List ℕ)) → k ≡ kinds.Write → StopsAt k input fault old new → WritesFault k input fault old new
steps_cut k input fault old new is s = subst (λ (x : ScriptKind). WritesFault x input fault old new) (sym is) (by (subst (λ (x : ScriptKind). StopsAt x input fault old new) is s)) where
  by : StopsAt kinds.Write input fault old new → WritesFault kinds.Write input fault old new
  by s = (s.0, inl s.1, s.2)

has_line : (input : List ℕ) (fault reported : ScriptFault) (old mid new : Option (List ℕ)) → PlaysInput input old mid (Err fault) → Reports fault mid new reported → Writes input old new (Err reported)
has_line input fault reported old mid new p (inl (is, same, kept)) =
    subst (λ (f : ScriptFault). WritesFault f.kind input f old new) (sym same)
    (steps_cut fault.kind input fault old new is (subst (StopsAt fault.kind input fault old) (sym kept) p))
has_line input fault reported old mid new p (inr (other, inl (same, line))) =
    subst (λ (f : ScriptFault). WritesFault f.kind input f old new) (sym same) (with_line fault.kind input fault old mid new other p line)
has_line input fault reported old mid new p (inr (other, inr (same, front))) =
    subst (λ (f : ScriptFault). WritesFault f.kind input f old new) (sym same) (line_cut input fault old mid new other p front)

pub reported : (known : Option (List ℕ)) (fault last : ScriptFault) (old mid new : Option (List ℕ)) → PlaysWhatIsRead known old mid (Err fault) → Reports fault mid new last → WritesWhatIsRead known old new (Err last)
reported None fault last old mid new p r = tt
reported (Some input) fault last old mid new p r = has_line input fault last old mid new p r
