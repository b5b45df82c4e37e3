-- Statement: the number of each fault of a signer.
use Rattle.std.specs.Prelude.{ℕ}
use Rattle.lms_tree.specs.declared.fault.SignFault.{SignFault}
use Rattle.lms_tree.specs.declared.fault.SignFault.TheVariants.{Exhausted, Memory}

abbrev pub sign_fault_number : SignFault → ℕ
sign_fault_number Exhausted = 1
sign_fault_number Memory = 2
