-- Statement: the code of an ELF object for BPF. (System V ABI, generic part, chapter 4) What is refused is told by the first
-- of its faults. A file whose sections are too many for e_shnum, which is 0 there, is refused.
use Rattle.std.specs.Prelude.{ℕ, ◌*◌, ◌/◌, ◌==◌, ◌||◌, Bool, nat_le, nat_lt, not, if◌then◌else◌, List, [], length, count_by, Option, Some, None, Result, Ok, Err}
use Rattle.std.specs.List.{list_any, position, slice_get, slice_index_or}
use Rattle.std.specs.Option.{ok_or, option_map}
use Rattle.std.specs.Simd.{first_chunks}
use Rattle.elf_object.specs.declared.fault.ObjectFault.{ObjectFault}
use Rattle.elf_object.specs.declared.fault.ObjectFault.TheVariants.{BadTable, BadNames, TextTwice, NoText, NotProgbits, TextOutside, Relocated}
use Rattle.elf_object.specs.declared.header.Header.{Header}
use Rattle.elf_object.specs.declared.section.Section.{Section}
use Rattle.elf_object.specs.Fields.{part}
use Rattle.elf_object.specs.Header.{elf_header}
use Rattle.elf_object.specs.Section.{is_text, relocates_by, section_of}

infixl 10 ◌>>=◌
abbrev pub ◌>>=◌ : {A B : Type 0} → Result A ObjectFault → (A → Result B ObjectFault) → Result B ObjectFault
(Ok x) >>= k = k x
(Err fault) >>= k = Err fault

-- Bytes as entries of 64 bytes.
abbrev pub entries : List ℕ → List (List ℕ)
entries bytes = first_chunks 64 (length bytes / 64) bytes

-- The table of sections: e_shnum entries from e_shoff on. Numbers from SHN_LORESERVE on count nothing.
abbrev pub section_table : List ℕ → Header → Result (List (List ℕ)) ObjectFault
section_table file header =
    if not (header.entry_size == 64) || (header.count == 0) || nat_le 0xff00 header.count then Err BadTable
    else ok_or (option_map entries (part file header.table (64 * header.count))) BadTable

-- The strings of a section of them, SHT_STRTAB.
abbrev pub strings : List ℕ → Section → Result (List ℕ) ObjectFault
strings file section = if section.kind == 3 then ok_or (part file section.offset section.size) BadNames else Err BadNames

-- The names of sections: the strings of the section e_shstrndx.
abbrev pub section_names : List ℕ → Header → List (List ℕ) → Result (List ℕ) ObjectFault
section_names file header table = do
  entry ← ok_or (slice_get table header.names) BadNames
  strings file (section_of entry)

-- The one section that is named `.text`, and its index.
abbrev pub text_section : List ℕ → List (List ℕ) → Result (ℕ × Section) ObjectFault
text_section names table =
    if nat_lt 1 (count_by (is_text names) table) then Err TextTwice
    else ok_or (option_map (λ index. (index, section_of (slice_index_or table index []))) (position (is_text names) table)) NoText

-- The bytes of `.text`, of type SHT_PROGBITS, to which no relocations apply.
abbrev pub code_of : List ℕ → List (List ℕ) → ℕ → Section → Result (List ℕ) ObjectFault
code_of file table index text =
    if not (text.kind == 1) then Err NotProgbits
    else (ok_or (part file text.offset text.size) TextOutside
    >>= (λ code. if list_any (relocates_by index) table then Err Relocated else Ok code))

abbrev pub text_of : List ℕ → Result (List ℕ) ObjectFault
text_of file = do
  header ← elf_header file
  table ← section_table file header
  names ← section_names file header table
  text ← text_section names table
  code_of file table text.0 text.1
