-- As `proofs/Drained.antt` has it.
use Rattle.pbft_progress.proofs.Drained.{is_honest, is_drained, gave, not_own, are_enough, all_stand, led, not_drained}
use Rattle.pbft_progress.proofs.a_drained_family_changes_views.Goals as goal

pub returns : goal.returns
returns k = record {
  honest = is_honest;
  drained = is_drained;
  gives = gave;
  not_itself = not_own;
  enough = are_enough;
  stand = all_stand;
  leader = led;
  lost = not_drained;
}
