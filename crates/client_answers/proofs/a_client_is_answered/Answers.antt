-- As `proofs/Heard.antt` has it.
use Rattle.std.proofs.Common.{refl}
use Rattle.client_answers.proofs.Heard.{given_out, newest, asks, hears, real, accepted}
use Rattle.client_answers.proofs.a_client_is_answered.Goals as goal

pub returns : goal.returns
returns k = record {
  given_out = given_out;
  newest = newest;
  asks = asks;
  hears = hears;
  fresh = λ secrets. refl;
  real = real;
  accepts = accepted;
}
