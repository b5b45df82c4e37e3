-- Statement: the names that steps give to messages.
use Rattle.std.specs.Prelude.{ℕ, Bool, true, false, List, Option, Some, None, Result, Ok, Err, bytes_eq}
use Rattle.std.specs.List.{list_any}
use Rattle.toml.specs.Data.{Data, as_str}
use Rattle.script_values.specs.declared.fault.TableFault.{TableFault}
use Rattle.script_values.specs.declared.fault.TableFault.TheVariants.{WrongValue}
use Rattle.script_text.specs.declared.script.NamedStep.{NamedStep}
use Rattle.script_text.specs.declared.script.Step.{Step}
use Rattle.script_values.specs.Forms.{if_found, pair_of}

-- ---- which names there are

abbrev pub is_name : Option (List ℕ) → List ℕ → Bool
is_name None t = false
is_name (Some name) t = bytes_eq t name

-- one of these steps gives this name
abbrev pub is_given : List NamedStep → List ℕ → Bool
is_given earlier t = list_any (λ (s : NamedStep). is_name s.name t) earlier

-- ---- what a value names

-- a name that an earlier step gives
abbrev pub known : Bool → List ℕ → Result (List ℕ) TableFault
known true t = Ok t
known false t = Err WrongValue

abbrev pub given_name : List NamedStep → Data → Result (List ℕ) TableFault
given_name earlier d = if_found (λ t. known (is_given earlier t) t) (as_str d)

-- a name that no earlier step gives
abbrev pub unused : Bool → List ℕ → Result (List ℕ) TableFault
unused true t = Err WrongValue
unused false t = Ok t

abbrev pub new_name : List NamedStep → Data → Result (List ℕ) TableFault
new_name earlier d = if_found (λ t. unused (is_given earlier t) t) (as_str d)

-- ---- a step with a name

abbrev pub named_from : Result (Step × Option (List ℕ)) TableFault → Result NamedStep TableFault
named_from (Ok r) = Ok (record { step = r.0; name = r.1 })
named_from (Err fault) = Err fault

-- a step and the name that it gives
abbrev pub named : Result Step TableFault → Result (Option (List ℕ)) TableFault → Result NamedStep TableFault
named step name = named_from (pair_of step name)
