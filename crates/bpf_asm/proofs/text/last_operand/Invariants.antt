use Rattle.std.proofs.Common.{◌≡◌, length}
use Rattle.bpf_asm.specs.Text.{pieces, last_text}
use Rattle.bpf_asm.proofs.text.last_operand.Given as goal

abbrev pub invariant-loop-rest : goal.invariant-loop-rest
invariant-loop-rest l = last_text (pieces l.text) ≡ last_text (pieces l.last)

abbrev pub decreases-loop-rest : goal.decreases-loop-rest
decreases-loop-rest l = length l.last
