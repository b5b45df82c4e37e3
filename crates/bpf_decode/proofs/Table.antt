-- The table of opcodes holds what each byte stands for.
use Rattle.std.proofs.Common.{◌≡◌, ℕ, ◌<◌, List, map, Option, slice_index_or, arith}
use Rattle.std.specs.List.{range_with_len}
use Rattle.std.proofs.lemmas.List.FromFn.{get_or-map-range_with_len}
use Rattle.bpf_decode.specs.declared.opcode.Opcode.{Opcode}
use Rattle.bpf_decode.specs.Opcodes.{opcode_of}

abbrev pub opcodes : List (Option Opcode)
opcodes = map opcode_of (range_with_len 0 256)

pub looked_up : (byte : ℕ) → byte < 256 → (e : Option Opcode) → slice_index_or opcodes byte e ≡ opcode_of byte
looked_up byte h e = get_or-map-range_with_len opcode_of 0 256 byte byte e h (omega arith)
