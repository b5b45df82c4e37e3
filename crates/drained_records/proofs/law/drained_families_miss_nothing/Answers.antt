-- As `proofs/Laws.antt` has it.
use Rattle.drained_records.proofs.Laws.{is_drained, is_not_drained}
use Rattle.drained_records.proofs.law.drained_families_miss_nothing.Goals as goal

pub returns : goal.returns
returns k = record { drained = is_drained; not_drained = is_not_drained }
