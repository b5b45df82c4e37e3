-- Statement: the ELF header of an object for BPF. (System V ABI, generic part, chapter 4: ELF Header; EM_BPF is 247)
use Rattle.std.specs.Prelude.{ℕ, ◌==◌, Bool, nat_lt, nat_eq, not, if◌then◌else◌, List, ◌∷◌, length, slice_index, codes, Result, Ok, Err}
use Rattle.std.specs.List.{starts_with}
use Rattle.std.specs.Int.{w16, w64}
use Rattle.elf_object.specs.declared.fault.ObjectFault.{ObjectFault}
use Rattle.elf_object.specs.declared.fault.ObjectFault.TheVariants.{NotElf, CutShort, Not64Bit, NotLittleEndian, NotRelocatable, NotForBpf}
use Rattle.elf_object.specs.declared.header.Header.{Header}
use Rattle.elf_object.specs.Fields.{number_at}

-- EI_MAG0 to EI_MAG3.
abbrev pub is_elf : List ℕ → Bool
is_elf file = starts_with nat_eq file (0x7f ∷ codes "ELF")

-- The fields of a 64-bit header that are looked at, in their order: EI_CLASS, EI_DATA, e_type, e_machine, e_shoff, e_shentsize,
-- e_shnum, e_shstrndx.
abbrev pub header_of : List ℕ → Header
header_of file =
    record {
      class = slice_index file 4;
      encoding = slice_index file 5;
      kind = number_at w16 16 file;
      machine = number_at w16 18 file;
      table = number_at w64 40 file;
      entry_size = number_at w16 58 file;
      count = number_at w16 60 file;
      names = number_at w16 62 file;
    }

-- The header of an object for BPF: ELFCLASS64, ELFDATA2LSB, ET_REL, EM_BPF.
abbrev pub suited : Header → Result Header ObjectFault
suited header =
    if not (header.class == 2) then Err Not64Bit
    else if not (header.encoding == 1) then Err NotLittleEndian
    else if not (header.kind == 1) then Err NotRelocatable
    else if not (header.machine == 247) then Err NotForBpf
    else Ok header

abbrev pub elf_header : List ℕ → Result Header ObjectFault
elf_header file =
    if not (is_elf file) then Err NotElf
    else if nat_lt (length file) 64 then Err CutShort
    else suited (header_of file)
