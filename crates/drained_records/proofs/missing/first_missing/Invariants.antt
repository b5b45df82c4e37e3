use Rattle.std.specs.Prelude.{◌<◌, ℕ}
use Rattle.drained_records.specs.Coming.{Came}
use Rattle.drained_records.proofs.missing.first_missing.Given as goal

abbrev pub invariant-loop-from : goal.invariant-loop-from
invariant-loop-from l = (i row output to : ℕ) → i < l.from → Came l.records i row output to
