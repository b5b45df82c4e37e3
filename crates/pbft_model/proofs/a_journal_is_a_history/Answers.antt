-- As `proofs/Rowed.antt` has it.
use Rattle.pbft_model.proofs.Rowed.{journal_is_history}
use Rattle.pbft_model.proofs.a_journal_is_a_history.Goals as goal

pub returns : goal.returns
returns c setup me signer rows last lawful = journal_is_history setup me signer rows last lawful
