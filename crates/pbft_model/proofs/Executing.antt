-- What is executed at a number was committed there.
use Rattle.std.proofs.Common.{ℕ, List, ◌∷◌}
use Rattle.pbft_model.specs.Setup.{Setup}
use Rattle.pbft_model.specs.Acts.{Execute}
use Rattle.pbft_model.specs.Histories.{core_after}
use Rattle.pbft_model.specs.Families.{Family, IsUnforged, HasCommitted, HasExecuted, ExecutesAlike}
use Rattle.pbft_model.proofs.ByView.{agrees_by_view}
use Rattle.pbft_model.proofs.Events.{before, history_at}

module _ (c : Setup) (family : Family) (u : IsUnforged c family) where
  committed_then : (i number : ℕ) (digest : List ℕ) (w : HasExecuted c family i number digest) → HasCommitted c family i (core_after c (family.signer i) w.early).view number digest
  committed_then i number digest w = record {
    correct = w.correct;
    acts = w.early;
    earlier = before (Execute number digest w.service w.outcome) w.early (family.acts i) w.point;
    committed = (history_at c i (family.signer i) (Execute number digest w.service w.outcome ∷ w.early) (family.acts i) w.point (u.histories i w.correct)).1.committed;
  }

  pub executes_alike : ExecutesAlike c family
  executes_alike i j number digest digest' w w' =
      agrees_by_view c family u i j (core_after c (family.signer i) w.early).view (core_after c (family.signer j) w'.early).view number digest digest'
      (committed_then i number digest w) (committed_then j number digest' w')
