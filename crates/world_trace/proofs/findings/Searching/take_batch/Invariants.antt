use Rattle.std.proofs.Common.{◌≡◌, ◌+◌, List, ℕ, Option}
use Rattle.world_trace.specs.Finding.{Stands}
use Rattle.world_trace.proofs.findings.Searching.take_batch.Given as goal

abbrev pub invariant-loop-explored : goal.invariant-loop-explored
invariant-loop-explored g l =
    (l.seed ≡ l.first + l.explored-index)
    × ((start : Option (List ℕ)) → Stands l.self.script.now l.self.search l.first l.fn.blamed.items start (g.O.Write.contents l.fn.writer) → Stands l.self.script.now l.self.search l.seed l.blamed.items start (g.O.Write.contents l.writer))
