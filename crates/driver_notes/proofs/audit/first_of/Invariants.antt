use Rattle.std.specs.Prelude.{◌<◌, ℕ}
use Rattle.driver_notes.specs.Blaming.{Blames}
use Rattle.driver_notes.proofs.audit.first_of.Given as goal

abbrev pub invariant-loop-place : goal.invariant-loop-place
invariant-loop-place l = (i : ℕ) → i < l.place → Blames l.heard l.claim i → ⊥
