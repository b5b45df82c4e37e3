use Rattle.std.proofs.Common.{Ok, take}
use Rattle.world_trace.specs.Finding.{TellsBlame}
use Rattle.world_trace.proofs.findings.Searching.write_blame.Given as goal

abbrev pub invariant-loop-blame : goal.invariant-loop-blame
invariant-loop-blame g l = TellsBlame l.seed (take l.blame-index l.heard) l.fn.blamed.items l.blamed.items (g.O.Write.contents l.fn.writer) (g.O.Write.contents l.writer) (Ok tt)
