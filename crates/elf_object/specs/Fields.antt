-- Statement: what stands at a place of an ELF file. (System V ABI, generic part, chapter 4: Data Representation)
use Rattle.std.specs.Prelude.{ℕ, ◌+◌, nat_le, if◌then◌else◌, List, length, take, drop, Option, Some, None}
use Rattle.std.specs.Int.{Width, byte_len, from_le_bytes}

-- The number of a width at a place, its least byte first (ELFDATA2LSB).
abbrev pub number_at : Width → ℕ → List ℕ → ℕ
number_at w at bytes = from_le_bytes w (take (byte_len w) (drop at bytes))

-- So many bytes of a file from an offset on, if they all lie in it.
abbrev pub part : List ℕ → ℕ → ℕ → Option (List ℕ)
part file offset size = if nat_le (offset + size) (length file) then Some (take size (drop offset file)) else None
