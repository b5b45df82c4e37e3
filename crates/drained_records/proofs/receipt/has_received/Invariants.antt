use Rattle.std.proofs.Common.{◌≡◌, ◌<◌, ℕ, Some}
use Rattle.std.specs.Prelude.{slice_get}
use Rattle.byz_world.specs.Rows.{Received}
use Rattle.byz_world.specs.Facts.{RowFacts, input_of}
use Rattle.drained_records.proofs.receipt.has_received.Given as goal

abbrev pub invariant-loop-row : goal.invariant-loop-row
invariant-loop-row l =
    (i : ℕ) (r : RowFacts) → i < l.row-index → slice_get l.rows i ≡ Some r → input_of r.input ≡ Received l.message.message → ⊥
