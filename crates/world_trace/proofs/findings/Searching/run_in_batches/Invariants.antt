use Rattle.std.proofs.Common.{◌+◌, ◌-◌, ◌≤◌}
use Rattle.world_trace.specs.Finding.{Stands}
use Rattle.world_trace.proofs.findings.Searching.run_in_batches.Given as goal

abbrev pub invariant-loop-next : goal.invariant-loop-next
invariant-loop-next g l =
    (l.next ≤ l.self.search.seeds.first + (l.self.search.seeds.end - l.self.search.seeds.first))
    × Stands l.self.script.now l.self.search l.next l.blamed.items (g.O.Write.contents l.fn.writer) (g.O.Write.contents l.writer)

abbrev pub decreases-loop-next : goal.decreases-loop-next
decreases-loop-next g l = l.end - l.next
