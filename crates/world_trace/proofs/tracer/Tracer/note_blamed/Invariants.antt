use Rattle.std.proofs.Common.{◌≡◌, ◌++◌, map, take}
use Rattle.world_chart.specs.Happening.TheVariants as happens
use Rattle.world_trace.proofs.tracer.Tracer.note_blamed.Given as goal

abbrev pub invariant-loop-blame : goal.invariant-loop-blame
invariant-loop-blame l = l.self.happened.items ≡ l.fn.self.happened.items ++ map happens.Blamed (take l.blame-index l.blamed)
