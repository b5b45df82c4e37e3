use Rattle.std.proofs.Common.{◌≡◌, take}
use Rattle.std.specs.List.{list_any}
use Rattle.host_types.specs.declared.View.{View}
use Rattle.conflicts.specs.Views.{reaches, shows_place}
use Rattle.conflicts.proofs.views.Leaving.shown.Given as goal

abbrev pub invariant-loop-reported : goal.invariant-loop-reported
invariant-loop-reported l = (view : View) → list_any (shows_place view l.number) (take l.reported-index l.reported-items) ≡ reaches view l.highest
