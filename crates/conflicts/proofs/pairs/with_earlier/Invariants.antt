use Rattle.conflicts.specs.Gathering.{Grows}
use Rattle.conflicts.proofs.pairs.with_earlier.Given as goal

abbrev pub invariant-loop-first : goal.invariant-loop-first
invariant-loop-first l = Grows l.messages l.second l.first l.initial.pairs.items l.pairs.items
