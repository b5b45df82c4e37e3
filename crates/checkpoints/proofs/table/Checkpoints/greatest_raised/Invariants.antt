use Rattle.std.proofs.Common.{◌≡◌}
use Rattle.std.specs.Iterator.Adapters.{rev_source}
use Rattle.checkpoints.proofs.Raising.{last_raised}
use Rattle.checkpoints.proofs.table.Checkpoints.greatest_raised.Given as goal

abbrev pub invariant-loop-number : goal.invariant-loop-number
invariant-loop-number l = last_raised l.self l.up_to.0 (rev_source l.number-iterator) ≡ last_raised l.self l.up_to.0 (rev_source l.initial.number-iterator)
