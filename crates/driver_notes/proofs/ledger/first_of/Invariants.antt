use Rattle.std.specs.Prelude.{◌<◌, ℕ}
use Rattle.driver_notes.specs.Accounts.{DiffersAt}
use Rattle.driver_notes.proofs.ledger.first_of.Given as goal

abbrev pub invariant-loop-place : goal.invariant-loop-place
invariant-loop-place l = (i : ℕ) → i < l.place → DiffersAt l.deeds l.deed i → ⊥
