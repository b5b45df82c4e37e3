-- Statement: what the scripts of a dialect may say. Under a seed that is given beside the script each `deliver` may have chances.
-- Scripts of running threads have requests for all replicas and timeouts alone, no faulty replica, no leaf used and no named message.
use Rattle.std.specs.Prelude.{ℕ, codes, List, Bool, true, false, Option, Some, None, Result, Ok, Err, is_some, bytes_eq, option_and_then, if◌then◌else◌}
use Rattle.toml.specs.Data.{Data, Items, Members, no_items, item, as_array, as_str, as_table, get_member}
use Rattle.host_types.specs.declared.ReplicaId.{ReplicaId}
use Rattle.script_text.specs.declared.dialect.Dialect.{Dialect}
use Rattle.script_text.specs.declared.dialect.Dialect.TheVariants.{World, Seeded, Threads}
use Rattle.script_values.specs.declared.fault.TableFault.{TableFault}
use Rattle.script_values.specs.declared.fault.TableFault.TheVariants.{MissingKey, WrongValue}
use Rattle.script_values.specs.declared.said.Client.{Client}
use Rattle.script_text.specs.declared.files.NamedFile.{NamedFile}
use Rattle.script_text.specs.declared.script.NamedStep.{NamedStep}
use Rattle.script_text.specs.declared.script.Step.{Step}
use Rattle.script_values.specs.Forms.{if_found, unknown_where, wrong_where}
use Rattle.script_text.specs.Heads.{HeadFacts, head_in}
use Rattle.script_text.specs.Naming.{named}
use Rattle.script_text.specs.Steps.{name_in, seeded_deliver_in, step_named}

-- whether a list has an item
abbrev pub has_item : Option Items → Bool
has_item None = false
has_item (Some no_items) = false
has_item (Some (item d ds)) = true

abbrev pub names_faulty : Members → Bool
names_faulty members = has_item (option_and_then as_array (get_member (codes "faulty") members))

-- The head of a document in a dialect. Replicas that run begin with no leaf used.
abbrev pub head_for : Dialect → Members → Result HeadFacts TableFault
head_for World members = head_in members
head_for Seeded members = head_in members
head_for Threads members = unknown_where (is_some (get_member (codes "spent") members)) (wrong_where (names_faulty members) (head_in members))

-- A step of a world under a seed, with these files.
abbrev pub seeded_step : List ℕ → List NamedFile → ℕ → List ReplicaId → List Client → List NamedStep → Members → Result Step TableFault
seeded_step t files count faulty clients earlier members =
    if bytes_eq t (codes "deliver") then seeded_deliver_in count clients members
    else step_named t files count faulty clients earlier members

-- A step of running threads, with these files.
abbrev pub thread_step : List ℕ → List NamedFile → ℕ → List ReplicaId → List Client → List NamedStep → Members → Result Step TableFault
thread_step t files count faulty clients earlier members =
    if bytes_eq t (codes "request") then wrong_where (is_some (get_member (codes "to") members)) (step_named t files count faulty clients earlier members)
    else if bytes_eq t (codes "timeout") then step_named t files count faulty clients earlier members
    else Err WrongValue

-- a step of this name in a dialect, behind these steps
abbrev pub step_named_for : Dialect → List ℕ → List NamedFile → ℕ → List ReplicaId → List Client → List NamedStep → Members → Result NamedStep TableFault
step_named_for World t files count faulty clients earlier members =
    named (step_named t files count faulty clients earlier members) (name_in earlier t members)
step_named_for Seeded t files count faulty clients earlier members =
    named (seeded_step t files count faulty clients earlier members) (name_in earlier t members)
step_named_for Threads t files count faulty clients earlier members =
    named (unknown_where (is_some (get_member (codes "as") members)) (thread_step t files count faulty clients earlier members)) (Ok None)

abbrev pub step_with : Dialect → List NamedFile → ℕ → List ReplicaId → List Client → List NamedStep → Members → Option Data → Result NamedStep TableFault
step_with dialect files count faulty clients earlier ms None = Err MissingKey
step_with dialect files count faulty clients earlier ms (Some d) =
    if_found (λ t. step_named_for dialect t files count faulty clients earlier ms) (as_str d)

abbrev pub step_in : Dialect → List NamedFile → ℕ → List ReplicaId → List Client → List NamedStep → Members → Result NamedStep TableFault
step_in dialect files count faulty clients earlier members =
    step_with dialect files count faulty clients earlier members (get_member (codes "do") members)

abbrev pub step : Dialect → List NamedFile → ℕ → List ReplicaId → List Client → List NamedStep → Data → Result NamedStep TableFault
step dialect files count faulty clients earlier d = if_found (step_in dialect files count faulty clients earlier) (as_table d)
