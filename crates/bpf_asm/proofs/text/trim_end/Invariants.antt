use Rattle.std.proofs.Common.{◌≡◌, length, reverse}
use Rattle.bpf_asm.specs.Text.{trim_start}
use Rattle.bpf_asm.proofs.text.trim_end.Given as goal

abbrev pub invariant-loop-last : goal.invariant-loop-last
invariant-loop-last l = reverse (trim_start (reverse l.text)) ≡ reverse (trim_start (reverse l.rest))

abbrev pub decreases-loop-last : goal.decreases-loop-last
decreases-loop-last l = length l.rest
