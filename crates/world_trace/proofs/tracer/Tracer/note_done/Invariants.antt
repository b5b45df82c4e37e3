use Rattle.std.proofs.Common.{◌≡◌, ◌++◌, map, take}
use Rattle.world_chart.specs.Changes.{doing}
use Rattle.world_trace.proofs.tracer.Tracer.note_done.Given as goal

abbrev pub invariant-loop-one : goal.invariant-loop-one
invariant-loop-one l = l.self.happened.items ≡ l.fn.self.happened.items ++ map (doing l.at) (take l.one-index l.done)
