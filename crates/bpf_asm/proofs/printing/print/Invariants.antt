use Rattle.std.proofs.Common.{◌≡◌, take}
use Rattle.std.specs.String.{string_bytes}
use Rattle.bpf_asm.specs.Printing.{printed}
use Rattle.bpf_asm.proofs.printing.print.Given as goal

abbrev pub invariant-loop-insn : goal.invariant-loop-insn
invariant-loop-insn l = string_bytes l.text ≡ printed (take l.insn-index l.code)
