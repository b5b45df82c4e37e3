-- As `proofs/Rising.antt` has it.
use Rattle.pbft_agreement.proofs.Rising.{rows_rise}
use Rattle.pbft_agreement.proofs.executions_rise_by_one.Goals as goal

pub returns : goal.returns
returns c setup me signer rows last lawful = rows_rise setup me signer rows last lawful
