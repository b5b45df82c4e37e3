-- Statement: the script that a text is, or its first fault.
use Rattle.std.specs.Prelude.{◌≡◌, ◌⊎◌, codes, ℕ, ◌+◌, nat_lt, List, [], ◌∷◌, ◌++◌, length, Option, Some, None, Result, Ok, Err, Vec, option_and_then, if◌then◌else◌}
use Rattle.std.specs.Str.{is_utf8}
use Rattle.std.specs.declared.alloc.Global.{Global}
use Rattle.toml.specs.Data.{Items, Members, no_items, item, as_array, get_member}
use Rattle.toml.specs.Parse.{parse_document}
use Rattle.host_types.specs.Configuration.{replicas_for}
use Rattle.script_values.specs.declared.fault.ScriptFault.{ScriptFault}
use Rattle.script_values.specs.declared.fault.ScriptKind.TheVariants.{NotToml, TooLong, Memory}
use Rattle.script_values.specs.declared.fault.TableFault.{TableFault}
use Rattle.script_text.specs.declared.script.Script.{Script}
use Rattle.script_text.specs.declared.files.NamedFile.{NamedFile}
use Rattle.script_text.specs.declared.script.NamedStep.{NamedStep}
use Rattle.script_values.specs.Faults.{at_head, kind_of}
use Rattle.script_text.specs.declared.dialect.Dialect.{Dialect}
use Rattle.script_text.specs.declared.dialect.Dialect.TheVariants.{World, Threads}
use Rattle.script_text.specs.Dialects.{head_for, step}
use Rattle.script_text.specs.Heads.{HeadFacts}

-- What was read is this, unless memory ran out.
abbrev pub IsScriptUnlessMemory : {A : Type 0} → Result A ScriptFault → Result A ScriptFault → Type 0
IsScriptUnlessMemory (Ok x) is = is ≡ Ok x
IsScriptUnlessMemory (Err fault) is = (fault.kind ≡ Memory) ⊎ (is ≡ Err fault)

-- the number behind a step's; the last of 32 bits stays
abbrev pub next_step : ℕ → ℕ
next_step n = if nat_lt n 4294967295 then n + 1 else n

abbrev pub with_step : List NamedStep → ℕ → Result NamedStep TableFault → Result (List NamedStep) ScriptFault
with_step steps number (Ok s) = Ok (steps ++ s ∷ [])
with_step steps number (Err fault) = Err (record { kind = kind_of fault; step = number })

-- The steps of a document behind these, of which the last has this number, or the first that has a fault.
abbrev pub steps_from : Dialect → List NamedFile → HeadFacts → ℕ → Result (List NamedStep) ScriptFault → Items → Result (List NamedStep) ScriptFault
steps_from dialect files h number (Err fault) ds = Err fault
steps_from dialect files h number (Ok steps) no_items = Ok steps
steps_from dialect files h number (Ok steps) (item d ds) =
    steps_from dialect files h (next_step number) (with_step steps (next_step number) (step dialect files (replicas_for h.f) h.faulty h.clients steps d)) ds

-- a vector that was read, as a list
abbrev pub items_in : Result (Vec NamedStep Global) ScriptFault → Result (List NamedStep) ScriptFault
items_in (Ok v) = Ok v.items
items_in (Err fault) = Err fault

abbrev pub listed_steps : Members → Option Items
listed_steps members = option_and_then as_array (get_member (codes "step") members)

abbrev pub steps_in : Dialect → List NamedFile → HeadFacts → Option Items → Result (List NamedStep) ScriptFault
steps_in dialect files h None = Ok []
steps_in dialect files h (Some ds) = steps_from dialect files h 0 (Ok []) ds

abbrev pub script_from : HeadFacts → Result (List NamedStep) ScriptFault → Result Script ScriptFault
script_from h (Ok steps) = Ok (record { head = h; steps = steps })
script_from h (Err fault) = Err fault

abbrev pub script_with : Dialect → List NamedFile → Members → Result HeadFacts TableFault → Result Script ScriptFault
script_with dialect files ms (Ok h) = script_from h (steps_in dialect files h (listed_steps ms))
script_with dialect files ms (Err fault) = Err (at_head (kind_of fault))

abbrev pub script_in : Dialect → List NamedFile → Option Members → Result Script ScriptFault
script_in dialect files None = Err (at_head NotToml)
script_in dialect files (Some members) = script_with dialect files members (head_for dialect members)

-- the document that a text is
abbrev pub document : List ℕ → Option Members
document bytes = if is_utf8 bytes then parse_document bytes else None

-- how many steps a document lists
abbrev pub count_in : Items → ℕ
count_in no_items = 0
count_in (item d ds) = count_in ds + 1

abbrev pub count_of : Option Items → ℕ
count_of None = 0
count_of (Some ds) = count_in ds

abbrev pub steps_listed : Option Members → ℕ
steps_listed None = 0
steps_listed (Some members) = count_of (listed_steps members)

-- The script that a text is in a dialect, with the files that it may name. A text of over 1,048,576 bytes is none, whatever
-- is in it; of several faults that of the least step is reported, the head being step 0.
abbrev pub script_for : Dialect → List NamedFile → List ℕ → Result Script ScriptFault
script_for dialect files bytes = if nat_lt 1048576 (length bytes) then Err (at_head TooLong) else script_in dialect files (document bytes)

-- the script of a world, and the one of running threads, of which the text is all
abbrev pub script_of : List ℕ → Result Script ScriptFault
script_of bytes = script_for World [] bytes

abbrev pub thread_script_of : List ℕ → Result Script ScriptFault
thread_script_of bytes = script_for Threads [] bytes
