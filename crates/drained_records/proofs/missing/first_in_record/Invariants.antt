use Rattle.std.specs.Prelude.{◌<◌, ℕ}
use Rattle.drained_records.specs.Finding.{RecordCame}
use Rattle.drained_records.proofs.missing.first_in_record.Given as goal

abbrev pub invariant-loop-row : goal.invariant-loop-row
invariant-loop-row l = (i output to : ℕ) → i < l.row → RecordCame l.records l.from i output to
