use Rattle.std.proofs.Common.{◌≡◌, length}
use Rattle.bpf_asm.specs.Text.{trim_start}
use Rattle.bpf_asm.proofs.text.trim_start.Given as goal

abbrev pub invariant-loop-first : goal.invariant-loop-first
invariant-loop-first l = trim_start l.text ≡ trim_start l.rest

abbrev pub decreases-loop-first : goal.decreases-loop-first
decreases-loop-first l = length l.rest
