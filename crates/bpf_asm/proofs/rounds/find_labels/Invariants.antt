use Rattle.bpf_asm.proofs.Tables.{Surveyed}
use Rattle.bpf_asm.proofs.rounds.find_labels.Given as goal

abbrev pub invariant-loop-line : goal.invariant-loop-line
invariant-loop-line l = Surveyed l.lines l.line-index l.slot l.number l.labels.items
