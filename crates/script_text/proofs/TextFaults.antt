-- The faults that a text has are none of a run: no read or write fails in it, and nothing is delivered.
use Rattle.std.proofs.Common.{◌≡◌, ℕ, List, [], Option, Some, None, Result, Ok, Err, subst, if◌then◌else◌, Bool, true, false}
use Rattle.std.specs.Prelude.{nat_lt, length}
use Rattle.toml.specs.Data.{Items, Members, no_items, item}
use Rattle.host_types.specs.Configuration.{replicas_for}
use Rattle.script_values.specs.Faults.{kind_of}
use Rattle.script_text.specs.Dialects.{head_for, step}
use Rattle.script_text.specs.Heads.{HeadFacts}
use Rattle.script_text.specs.Scripts.{document, listed_steps, next_step, script_for, script_from, script_in, script_of, script_with, steps_from, steps_in, with_step}
use Rattle.script_text.specs.declared.dialect.Dialect.{Dialect}
use Rattle.script_text.specs.declared.dialect.Dialect.TheVariants.{World}
use Rattle.script_values.specs.declared.fault.ScriptFault.{ScriptFault}
use Rattle.script_values.specs.declared.fault.ScriptKind.{ScriptKind}
use Rattle.script_values.specs.declared.fault.ScriptKind.TheVariants as kinds
use Rattle.script_values.specs.declared.fault.TableFault.{TableFault}
use Rattle.script_values.specs.declared.fault.TableFault.TheVariants as faults
use Rattle.script_text.specs.declared.files.NamedFile.{NamedFile}
use Rattle.script_text.specs.declared.script.NamedStep.{NamedStep}

-- It is no fault of a run.
abbrev pub IsOfText : ScriptKind → Type 0
IsOfText kinds.TooManyDeliveries = ⊥
IsOfText kinds.Read = ⊥
IsOfText kinds.Write = ⊥
IsOfText _ = Unit {0}

abbrev AreOfText : {A : Type 0} → Result A ScriptFault → Type 0
AreOfText (Ok x) = Unit {0}
AreOfText (Err fault) = IsOfText fault.kind

of_table : (f : TableFault) → IsOfText (kind_of f)
of_table faults.Memory = tt
of_table _ = tt

of_step : (steps : List NamedStep) (number : ℕ) (r : Result NamedStep TableFault) → AreOfText (with_step steps number r)
of_step steps number (Ok s) = tt
of_step steps number (Err fault) = of_table fault

of_steps : (dialect : Dialect) (files : List NamedFile) (h : HeadFacts) (number : ℕ) (r : Result (List NamedStep) ScriptFault) (ds : Items) → AreOfText r → AreOfText (steps_from dialect files h number r ds)
of_steps dialect files h number (Err fault) ds are = are
of_steps dialect files h number (Ok steps) no_items are = tt
of_steps dialect files h number (Ok steps) (item d ds) are =
    let read = step dialect files (replicas_for h.f) h.faulty h.clients steps d in
    of_steps dialect files h (next_step number) (with_step steps (next_step number) read) ds (of_step steps (next_step number) read)

of_list : (dialect : Dialect) (files : List NamedFile) (h : HeadFacts) (o : Option Items) → AreOfText (steps_in dialect files h o)
of_list dialect files h None = tt
of_list dialect files h (Some ds) = of_steps dialect files h 0 (Ok []) ds tt

of_parts : (h : HeadFacts) (r : Result (List NamedStep) ScriptFault) → AreOfText r → AreOfText (script_from h r)
of_parts h (Ok steps) are = tt
of_parts h (Err fault) are = are

of_head : (dialect : Dialect) (files : List NamedFile) (ms : Members) (r : Result HeadFacts TableFault) → AreOfText (script_with dialect files ms r)
of_head dialect files ms (Ok h) = of_parts h (steps_in dialect files h (listed_steps ms)) (of_list dialect files h (listed_steps ms))
of_head dialect files ms (Err fault) = of_table fault

of_document : (dialect : Dialect) (files : List NamedFile) (o : Option Members) → AreOfText (script_in dialect files o)
of_document dialect files None = tt
of_document dialect files (Some ms) = of_head dialect files ms (head_for dialect ms)

of_script : (dialect : Dialect) (files : List NamedFile) (bytes : List ℕ) → AreOfText (script_for dialect files bytes)
of_script dialect files bytes = by (nat_lt 1048576 (length bytes)) where
  by : (b : Bool) → AreOfText (if b then Err (record { kind = kinds.TooLong; step = 0 }) else script_in dialect files (document bytes))
  by true = tt
  by false = of_document dialect files (document bytes)

pub is_of_text : (bytes : List ℕ) (fault : ScriptFault) → script_of bytes ≡ Err fault → IsOfText fault.kind
is_of_text bytes fault is = subst AreOfText is (of_script World [] bytes)
