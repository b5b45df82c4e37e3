-- As `proofs/Answered.antt` has it, and `proofs/Timely.antt`.
use Rattle.pbft_answers.proofs.Answered.{is_honest, is_drained, window, unmoved, installs, proposes, executes}
use Rattle.sha2.specs.Sha256.{sha256}
use Rattle.pbft_agreement.specs.Example.{the_setup}
use Rattle.pbft_answers.specs.Answered.{the_answered}
use Rattle.pbft_answers.proofs.Timely.{window_timely}
use Rattle.pbft_answers.proofs.a_drained_family_executes.Goals as goal

pub returns : goal.returns
returns k = record {
  honest = is_honest;
  drained = is_drained;
  window = window;
  timely = λ secrets. window_timely (the_setup sha256 secrets) (the_answered sha256 secrets) (is_honest secrets) (window secrets);
  unmoved = unmoved;
  installs = installs;
  proposes = proposes;
  executes = executes;
}
