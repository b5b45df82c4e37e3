-- Statement: the number of each fault.
use Rattle.std.specs.Prelude.{ℕ}
use Rattle.lms_level.specs.declared.fault.SigFault.{SigFault}
use Rattle.lms_level.specs.declared.fault.SigFault.TheVariants.{Length, WrongType, Leaf, Mismatch}

abbrev pub sig_fault_number : SigFault → ℕ
sig_fault_number Length = 1
sig_fault_number WrongType = 2
sig_fault_number Leaf = 3
sig_fault_number Mismatch = 4
