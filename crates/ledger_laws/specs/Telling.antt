-- Statement: what correct replicas tell of their journals.
use Rattle.std.specs.Prelude.{◌≡◌, ℕ, ◌++◌, List, map, Some, None}
use Rattle.std.specs.List.{AllByRecursion, flat_map}
use Rattle.pbft_model.specs.Setup.{Setup}
use Rattle.pbft_model.specs.Rows.{Done, Executed, Installed, Row}
use Rattle.pbft_model.specs.Families.{IsCorrect}
use Rattle.pbft_agreement.specs.Journals.{Journals}
use Rattle.driver_notes.specs.declared.ledger.Deed.{Deed}

abbrev pub deed_of : Done → Deed
deed_of (Executed number digest result) = record { number = record { 0 = number }; digest = record { 0 = digest }; result = Some result }
deed_of (Installed number digest) = record { number = record { 0 = number }; digest = record { 0 = digest }; result = None }

abbrev pub deeds_in : List Row → List Deed
deeds_in rows = map deed_of (flat_map (λ row. row.done) rows)

-- These are a correct replica's deeds, all or the first of them.
pub record IsToldBy (c : Setup) (j : Journals) (deeds : List Deed) : Type 0 where
  pub replica : ℕ
  pub correct : IsCorrect c j.faulty replica
  pub later : List Deed
  pub told : deeds_in (j.rows replica) ≡ deeds ++ later

abbrev pub AreTold : Setup → Journals → List (List Deed) → Type 0
AreTold c j records = AllByRecursion (IsToldBy c j) records
