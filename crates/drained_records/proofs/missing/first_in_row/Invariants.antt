use Rattle.std.specs.Prelude.{◌<◌, ℕ}
use Rattle.drained_records.specs.Finding.{RowCame}
use Rattle.drained_records.proofs.missing.first_in_row.Given as goal

abbrev pub invariant-loop-output : goal.invariant-loop-output
invariant-loop-output l = (i to : ℕ) → i < l.output → RowCame l.records l.from l.row i to
