use Rattle.client_session.proofs.Rising.{numbers_rise}
use Rattle.client_session.proofs.laws.numbers_rise_with_times.Goals as goal

pub returns : goal.returns
returns c = numbers_rise
