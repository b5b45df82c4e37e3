-- Statement: an entry of the table of sections. (System V ABI, generic part, chapter 4: Sections, String Table, Relocation)
use Rattle.std.specs.Prelude.{ℕ, ◌==◌, ◌&&◌, ◌||◌, Bool, nat_eq, not, List, [], ◌∷◌, ◌++◌, drop, codes}
use Rattle.std.specs.List.{starts_with}
use Rattle.std.specs.Int.{w32, w64}
use Rattle.elf_object.specs.declared.section.Section.{Section}
use Rattle.elf_object.specs.Fields.{number_at}

-- The fields of an entry of 64 bytes that are looked at, in their order: sh_name, sh_type, sh_offset, sh_size, sh_info.
unfoldable pub section_of : List ℕ → Section
section_of entry =
    record {
      name = number_at w32 0 entry;
      kind = number_at w32 4 entry;
      offset = number_at w64 24 entry;
      size = number_at w64 32 entry;
      info = number_at w32 44 entry;
    }

-- A section's name begins at its place in the names, and a byte 0 ends it.
abbrev pub is_named_text : List ℕ → Section → Bool
is_named_text names section = starts_with nat_eq (drop section.name names) (codes ".text" ++ 0 ∷ [])

abbrev pub is_text : List ℕ → List ℕ → Bool
is_text names entry = is_named_text names (section_of entry)

-- A section of relocations, SHT_REL or SHT_RELA, applies to the section whose index sh_info is. One without bytes has none.
abbrev pub relocates : ℕ → Section → Bool
relocates index section = ((section.kind == 9) || (section.kind == 4)) && (section.info == index) && not (section.size == 0)

abbrev pub relocates_by : ℕ → List ℕ → Bool
relocates_by index entry = relocates index (section_of entry)
