use Rattle.pbft_agreement.proofs.Stepping.{continues, row_continues}
use Rattle.pbft_agreement.proofs.a_duty_is_done_or_halts.Goals as goal

pub returns : goal.returns
returns k = record { acts = continues; rows = row_continues }
