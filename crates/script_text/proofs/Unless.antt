-- What was read, unless memory ran out, where a part of it is a fault.
use Rattle.std.proofs.Common.{◌≡◌, Result, Ok, Err, refl, sym, subst}
use Rattle.script_values.specs.declared.fault.TableFault.{TableFault}
use Rattle.script_values.specs.declared.fault.TableFault.TheVariants as faults
use Rattle.script_values.specs.Faults.{IsUnlessMemory, least}
use Rattle.script_values.specs.Forms.{pair_of}

-- What can only be out of memory may be anything else.
memory_alone : {A : Type 0} (r is : Result A TableFault) → IsUnlessMemory r (Err faults.Memory) → IsUnlessMemory r is
memory_alone (Ok x) is h = absurd cc
memory_alone (Err faults.Memory) is h = tt
memory_alone (Err faults.MissingKey) is h = absurd cc
memory_alone (Err faults.WrongValue) is h = absurd cc
memory_alone (Err faults.UnknownKey) is h = absurd cc
memory_alone (Err faults.BadConfig) is h = absurd cc

pub fault_itself : (A : Type 0) (fault : TableFault) → IsUnlessMemory {A = A} (Err fault) (Err fault)
fault_itself A faults.Memory = tt
fault_itself A _ = refl

-- A reading that goes on from a fault, and gives Memory for Memory.
pub goes_on : {A B : Type 0} (fault : TableFault) (said : Result A TableFault) (then : Result A TableFault → Result B TableFault) (r : Result B TableFault)
    → then (Err faults.Memory) ≡ Err faults.Memory → IsUnlessMemory {A = A} (Err fault) said → IsUnlessMemory r (then (Err fault)) → IsUnlessMemory r (then said)
goes_on {A} {B} faults.Memory said then r memory given is = memory_alone r (then said) (subst (λ (x : Result B TableFault). IsUnlessMemory r x) memory is)
goes_on {A} faults.MissingKey said then r memory given is = subst (λ (x : Result A TableFault). IsUnlessMemory r (then x)) (sym given) is
goes_on {A} faults.WrongValue said then r memory given is = subst (λ (x : Result A TableFault). IsUnlessMemory r (then x)) (sym given) is
goes_on {A} faults.UnknownKey said then r memory given is = subst (λ (x : Result A TableFault). IsUnlessMemory r (then x)) (sym given) is
goes_on {A} faults.BadConfig said then r memory given is = subst (λ (x : Result A TableFault). IsUnlessMemory r (then x)) (sym given) is

memory_least : (fault : TableFault) → least faults.Memory fault ≡ faults.Memory
memory_least faults.Memory = refl
memory_least _ = refl

-- Memory is the fault of a pair, whatever its other part.
pub memory_pair : {A B : Type 0} (other : Result B TableFault) → pair_of {A = A} (Err faults.Memory) other ≡ Err faults.Memory
memory_pair (Ok y) = refl
memory_pair {A} {B} (Err fault) = subst (λ (f : TableFault). ◌≡◌ {A = Result (A × B) TableFault} (Err f) (Err faults.Memory)) (sym (memory_least fault)) refl
