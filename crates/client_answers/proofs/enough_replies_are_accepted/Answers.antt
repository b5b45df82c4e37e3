-- As `proofs/Certificate.antt` has it.
use Rattle.client_answers.proofs.Certificate.{accepts, stays}
use Rattle.client_answers.proofs.enough_replies_are_accepted.Goals as goal

pub returns : goal.returns
returns k = record {
  accepts = λ s ms reply pending to enough. accepts s ms reply pending to enough;
  once = λ s ms accepted is. stays s ms accepted is;
}
