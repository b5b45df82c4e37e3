use Rattle.world_trace.specs.Shrinking.{IsFoundBy}
use Rattle.world_trace.proofs.shrink.Found.choices.Given as goal

abbrev pub invariant-loop-index : goal.invariant-loop-index
invariant-loop-index l = IsFoundBy l.self.script.now l.self.finding l.choices.items
