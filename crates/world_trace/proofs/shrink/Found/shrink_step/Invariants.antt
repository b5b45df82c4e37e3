use Rattle.world_trace.specs.Shrinking.{IsFoundBy}
use Rattle.world_trace.proofs.shrink.Found.shrink_step.Given as goal

abbrev pub invariant-loop-part : goal.invariant-loop-part
invariant-loop-part l = IsFoundBy l.self.script.now l.self.finding l.choices.items

abbrev pub invariant-loop : goal.invariant-loop
invariant-loop l = IsFoundBy l.self.script.now l.self.finding l.choices.items
