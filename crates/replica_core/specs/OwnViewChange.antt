-- Internal: the ViewChange that is made of what a replica keeps, once it has left its view.
use Rattle.host_types.specs.declared.View.{View}
use Rattle.pbft_model.specs.Core.{Core}
use Rattle.pbft_model.specs.Tables.{entries_in}
use Rattle.pbft_model.specs.Words.{ViewChange}

abbrev pub own_view_change : Core → View → ViewChange
own_view_change s view = record { view = view; low = record { 0 = s.low }; checkpoints = s.proof; certificates = entries_in s.kept }
