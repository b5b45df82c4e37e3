-- Statement: the numbers of faults.
use Rattle.std.specs.Prelude.{ℕ}
use Rattle.bpf_asm.specs.declared.fault.AsmKind.{AsmKind}
use Rattle.bpf_asm.specs.declared.fault.AsmKind.TheVariants.{Word, Operand, Number, Label, Memory}

abbrev pub number_of : AsmKind → ℕ
number_of Word = 1
number_of Operand = 2
number_of Number = 3
number_of Label = 4
number_of Memory = 5
