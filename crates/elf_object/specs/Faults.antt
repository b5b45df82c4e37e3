-- Statement: the numbers of faults.
use Rattle.std.specs.Prelude.{ℕ}
use Rattle.elf_object.specs.declared.fault.ObjectFault.{ObjectFault}
use Rattle.elf_object.specs.declared.fault.ObjectFault.TheVariants.{NotElf, CutShort, Not64Bit, NotLittleEndian, NotRelocatable, NotForBpf, BadTable, BadNames, TextTwice, NoText, NotProgbits, TextOutside, Relocated}

abbrev pub number_of : ObjectFault → ℕ
number_of NotElf = 1
number_of CutShort = 2
number_of Not64Bit = 3
number_of NotLittleEndian = 4
number_of NotRelocatable = 5
number_of NotForBpf = 6
number_of BadTable = 7
number_of BadNames = 8
number_of TextTwice = 9
number_of NoText = 10
number_of NotProgbits = 11
number_of TextOutside = 12
number_of Relocated = 13
