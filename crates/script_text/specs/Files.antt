-- Statement: the files that a script names, and the code in them.
use Rattle.std.specs.Prelude.{ℕ, codes, List, [], ◌∷◌, ◌==◌, ◌&&◌, ◌||◌, Bool, not, length, nat_eq, nat_lt, Option, Result, Err, find, bytes_eq, if◌then◌else◌}
use Rattle.std.specs.List.{ends_with, list_any}
use Rattle.toml.specs.Data.{Data, as_str}
use Rattle.script_values.specs.declared.fault.TableFault.{TableFault}
use Rattle.script_values.specs.declared.fault.TableFault.TheVariants.{WrongValue}
use Rattle.script_values.specs.Forms.{assembler_code, hex_text, if_found, is_one_of}
use Rattle.script_text.specs.declared.files.NamedFile.{NamedFile}

-- a name that leads into no other folder
abbrev pub is_plain : List ℕ → Bool
is_plain name = not (list_any (λ b. b == 47) name) && not (is_one_of (codes "" ∷ codes "." ∷ codes ".." ∷ []) name)

-- what a file has, by the ending of its name
abbrev pub has_digits : List ℕ → Bool
has_digits name = ends_with nat_eq name (codes ".hex")

abbrev pub has_assembler : List ℕ → Bool
has_assembler name = ends_with nat_eq name (codes ".asm")

-- a name that a script may give
abbrev pub is_code_name : List ℕ → Bool
is_code_name name = is_plain name && (has_digits name || has_assembler name)

-- the code in a file: as hex digits, or as an assembler text; no file has more than 1,048,576 bytes
abbrev pub code_in : NamedFile → Result (List ℕ) TableFault
code_in file =
    if nat_lt 1048576 (length file.bytes) then Err WrongValue
    else if has_digits file.name then hex_text file.bytes
    else if has_assembler file.name then assembler_code file.bytes
    else Err WrongValue

-- the first of these files that has this name
abbrev pub file_named : List NamedFile → List ℕ → Option NamedFile
file_named files name = find (λ file. bytes_eq file.name name) files

-- the code in the file of this name
abbrev pub code_named : List NamedFile → List ℕ → Result (List ℕ) TableFault
code_named files name = if is_plain name then if_found code_in (file_named files name) else Err WrongValue

abbrev pub file_code : List NamedFile → Data → Result (List ℕ) TableFault
file_code files d = if_found (code_named files) (as_str d)
