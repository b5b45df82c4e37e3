use Rattle.std.proofs.Common.{◌≡◌, drop, nat_le}
use Rattle.std.specs.List.{list_all}
use Rattle.bpf_asm.proofs.line.is_ascii.Given as goal

abbrev pub invariant-loop-byte : goal.invariant-loop-byte
invariant-loop-byte l = list_all (λ b. nat_le b 127) l.line ≡ list_all (λ b. nat_le b 127) (drop l.byte-index l.line)
