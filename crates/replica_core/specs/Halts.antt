-- Statement: the number and the name of each halt, and the halt of each fault of a signer.
use Rattle.std.specs.Prelude.{ℕ, List, codes, Result, Ok, Err}
use Rattle.replica_stores.specs.LogFault.{LogFault}
use Rattle.replica_stores.specs.LogFault.TheVariants as refusals
use Rattle.lms_tree.specs.declared.fault.SignFault.{SignFault}
use Rattle.lms_tree.specs.declared.fault.SignFault.TheVariants as faults
use Rattle.replica_core.specs.declared.halt.Halt.{Halt}
use Rattle.replica_core.specs.declared.halt.Halt.TheVariants.{Exhausted, Memory, Worn, JournalFull, AlreadyHalted}

abbrev pub number_of : Halt → ℕ
number_of Exhausted = 1
number_of Memory = 2
number_of Worn = 3
number_of JournalFull = 4
number_of AlreadyHalted = 5

abbrev pub name_of : Halt → List ℕ
name_of Exhausted = codes "Exhausted"
name_of Memory = codes "Memory"
name_of Worn = codes "Worn"
name_of JournalFull = codes "JournalFull"
name_of AlreadyHalted = codes "AlreadyHalted"

abbrev pub of_signing : SignFault → Halt
of_signing faults.Exhausted = Exhausted
of_signing faults.Memory = Memory

-- only running out of memory stops a replica: a vote that is refused is passed over
abbrev pub unless_memory : Result (Unit {0}) LogFault → Result (Unit {0}) Halt
unless_memory (Ok x) = Ok x
unless_memory (Err refusals.Memory) = Err Memory
unless_memory (Err refusals.OutsideMarks) = Ok tt
unless_memory (Err refusals.OtherDigest) = Ok tt
unless_memory (Err refusals.WrongView) = Ok tt
