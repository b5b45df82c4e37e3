-- Statement: which files a text names, before it is known whether it is a script.
use Rattle.std.specs.Prelude.{ℕ, codes, List, [], ◌∷◌, ◌++◌, Option, Some, None, bytes_eq, option_and_then, if◌then◌else◌}
use Rattle.toml.specs.Data.{Items, Members, no_items, item, as_str, as_table, get_member}
use Rattle.script_text.specs.Files.{is_code_name}
use Rattle.script_text.specs.Scripts.{listed_steps, next_step}
use Rattle.script_text.specs.declared.file_uses.FileUse.{FileUse}

-- the text at a key
abbrev pub text_at : List ℕ → Members → Option (List ℕ)
text_at key members = option_and_then as_str (get_member key members)

-- the file that a request names
abbrev pub asked_of : Option (List ℕ) → Members → Option (List ℕ)
asked_of None _ = None
asked_of (Some t) members = if bytes_eq t (codes "request") then text_at (codes "file") members else None

abbrev pub asked_in : Members → Option (List ℕ)
asked_in members = asked_of (text_at (codes "do") members) members

-- one use more, where the step of this number names a file that a script may name
abbrev pub with_use : ℕ → Option (List ℕ) → List FileUse → List FileUse
with_use number None uses = uses
with_use number (Some name) uses = if is_code_name name then uses ++ record { step = number; name = name } ∷ [] else uses

-- behind these uses, those of steps of which the one before has this number
abbrev pub uses_from : ℕ → List FileUse → Items → List FileUse
uses_from number uses no_items = uses
uses_from number uses (item d ds) =
    uses_from (next_step number) (with_use (next_step number) (option_and_then asked_in (as_table d)) uses) ds

abbrev pub uses_of : Option Items → List FileUse
uses_of None = []
uses_of (Some ds) = uses_from 0 [] ds

-- the uses of files in a document, by their steps
abbrev pub uses_in : Option Members → List FileUse
uses_in None = []
uses_in (Some members) = uses_of (listed_steps members)
