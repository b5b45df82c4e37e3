use Rattle.std.proofs.Common.{◌≡◌, take}
use Rattle.bpf_decode.specs.Encoding.{encoding}
use Rattle.bpf_decode.proofs.code.encode_all.Given as goal

abbrev pub invariant-loop-insn : goal.invariant-loop-insn
invariant-loop-insn l = l.bytes.items ≡ encoding (take l.insn-index l.code)
