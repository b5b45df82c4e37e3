use Rattle.std.proofs.Common.{◌≡◌, take}
use Rattle.std.specs.List.{concat}
use Rattle.std.specs.Io.KnownBytes.{Appends}
use Rattle.world_trace.specs.Searches.{choice_lines}
use Rattle.world_trace.specs.Shrinking.{numbers_in}
use Rattle.world_trace.proofs.shrink.Found.write_lines.Given as goal

abbrev pub invariant-loop-step : goal.invariant-loop-step
invariant-loop-step g l =
    (l.index ≡ l.step-index)
    × Appends (g.O.Write.contents l.fn.writer) (g.O.Write.contents l.writer) (concat (choice_lines l.self.finding.seed (numbers_in l.choices) 0 (take l.step-index l.self.script.now.steps)))
