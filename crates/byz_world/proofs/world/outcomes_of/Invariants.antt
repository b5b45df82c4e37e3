use Rattle.std.proofs.Common.{◌≡◌, ◌++◌, map}
use Rattle.byz_world.specs.Worlds.{facts_of, outcome_of}
use Rattle.byz_world.proofs.world.outcomes_of.Given as goal

abbrev pub invariant-loop-member : goal.invariant-loop-member
invariant-loop-member l = map facts_of l.outcomes.items ++ map outcome_of l.member-iterator.rest.items ≡ map outcome_of l.fn.members.items
