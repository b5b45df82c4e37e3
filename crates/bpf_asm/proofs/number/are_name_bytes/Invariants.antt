use Rattle.std.proofs.Common.{◌≡◌, drop}
use Rattle.std.specs.List.{list_all}
use Rattle.bpf_asm.specs.Text.{is_name_byte}
use Rattle.bpf_asm.proofs.number.are_name_bytes.Given as goal

abbrev pub invariant-loop-byte : goal.invariant-loop-byte
invariant-loop-byte l = list_all is_name_byte l.text ≡ list_all is_name_byte (drop l.byte-index l.text)
