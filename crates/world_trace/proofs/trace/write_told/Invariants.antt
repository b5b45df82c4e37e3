use Rattle.std.specs.Io.KnownBytes.{Appends}
use Rattle.world_trace.specs.Telling.{told_until}
use Rattle.world_trace.proofs.trace.write_told.Given as goal

abbrev pub invariant-loop-happening : goal.invariant-loop-happening
invariant-loop-happening g l = Appends (g.O.Write.contents l.fn.writer) (g.O.Write.contents l.writer) (told_until l.mark l.happened l.happening-index)
