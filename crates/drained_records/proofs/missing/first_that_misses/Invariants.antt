use Rattle.std.specs.Prelude.{◌<◌, ℕ}
use Rattle.drained_records.specs.Finding.{OutputCame}
use Rattle.drained_records.proofs.missing.first_that_misses.Given as goal

abbrev pub invariant-loop-to : goal.invariant-loop-to
invariant-loop-to l = (i : ℕ) → i < l.to → OutputCame l.records l.from l.output i
