use Rattle.conflicts.specs.Gathering.{HasBelow}
use Rattle.conflicts.proofs.pairs.conflicts.Given as goal

abbrev pub invariant-loop-second : goal.invariant-loop-second
invariant-loop-second l = HasBelow l.messages l.second l.pairs.items
