use Rattle.bpf_asm.proofs.Tables.{Written}
use Rattle.bpf_asm.proofs.rounds.write_code.Given as goal

abbrev pub invariant-loop-line : goal.invariant-loop-line
invariant-loop-line l = Written l.lines l.line-index l.slot l.number l.code.items
