-- As `proofs/Timely.antt` has it; what is handed in is on time by what it is to be handed in.
use Rattle.early_laws.proofs.Timely.{none_early, held_of, timely}
use Rattle.early_laws.proofs.what_is_held_back_is_not_early.Goals as goal

pub returns : goal.returns
returns k = record {
  handed = λ h t m is. is.on_time;
  none = λ c j held. none_early c j held;
  back = λ c j none. held_of c j none;
  timely = λ c j held. timely c j held;
}
