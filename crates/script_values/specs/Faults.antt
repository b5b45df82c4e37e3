-- Statement: the numbers and the names of faults, how a fault is printed, and which of two faults is reported.
use Rattle.std.specs.Prelude.{◌≡◌, ℕ, List, ◌++◌, codes, decimal, nat_le, Result, Ok, Err, if◌then◌else◌}
use Rattle.script_values.specs.declared.fault.ScriptFault.{ScriptFault}
use Rattle.script_values.specs.declared.fault.ScriptKind.{ScriptKind}
use Rattle.script_values.specs.declared.fault.ScriptKind.TheVariants as kinds
use Rattle.script_values.specs.declared.fault.TableFault.{TableFault}
use Rattle.script_values.specs.declared.fault.TableFault.TheVariants.{Memory, MissingKey, WrongValue, UnknownKey, BadConfig}

abbrev pub number_of : ScriptKind → ℕ
number_of kinds.NotToml = 1
number_of kinds.MissingKey = 2
number_of kinds.WrongValue = 3
number_of kinds.UnknownKey = 4
number_of kinds.BadConfig = 5
number_of kinds.TooManyDeliveries = 6
number_of kinds.TooLong = 7
number_of kinds.Read = 8
number_of kinds.Write = 9
number_of kinds.Memory = 10

abbrev pub name_of : ScriptKind → List ℕ
name_of kinds.NotToml = codes "NotToml"
name_of kinds.MissingKey = codes "MissingKey"
name_of kinds.WrongValue = codes "WrongValue"
name_of kinds.UnknownKey = codes "UnknownKey"
name_of kinds.BadConfig = codes "BadConfig"
name_of kinds.TooManyDeliveries = codes "TooManyDeliveries"
name_of kinds.TooLong = codes "TooLong"
name_of kinds.Read = codes "Read"
name_of kinds.Write = codes "Write"
name_of kinds.Memory = codes "Memory"

-- a fault as it is printed
abbrev pub text_of : ScriptFault → List ℕ
text_of fault =
    codes "script fault " ++ decimal (number_of fault.kind) ++ codes " " ++ name_of fault.kind ++ codes " step " ++ decimal fault.step

abbrev pub kind_of : TableFault → ScriptKind
kind_of Memory = kinds.Memory
kind_of MissingKey = kinds.MissingKey
kind_of WrongValue = kinds.WrongValue
kind_of UnknownKey = kinds.UnknownKey
kind_of BadConfig = kinds.BadConfig

-- a fault of the head, which is step 0
abbrev pub at_head : ScriptKind → ScriptFault
at_head kind = record { kind = kind; step = 0 }

-- out of memory comes before all faults of the text
abbrev pub rank : TableFault → ℕ
rank Memory = 0
rank MissingKey = 1
rank WrongValue = 2
rank UnknownKey = 3
rank BadConfig = 4

abbrev pub least : TableFault → TableFault → TableFault
least a b = if nat_le (rank a) (rank b) then a else b

-- What was read is this, unless memory ran out.
abbrev pub IsUnlessMemory : {A : Type 0} → Result A TableFault → Result A TableFault → Type 0
IsUnlessMemory (Ok x) is = is ≡ Ok x
IsUnlessMemory (Err Memory) is = Unit {0}
IsUnlessMemory (Err MissingKey) is = is ≡ Err MissingKey
IsUnlessMemory (Err WrongValue) is = is ≡ Err WrongValue
IsUnlessMemory (Err UnknownKey) is = is ≡ Err UnknownKey
IsUnlessMemory (Err BadConfig) is = is ≡ Err BadConfig
