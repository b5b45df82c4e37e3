use Rattle.replica_core.proofs.LowMarks.{proof_fits, proof_kept}
use Rattle.replica_core.proofs.laws.checkpoints_give_valid_proofs.Goals as goal

pub returns : goal.returns
returns c = record { proof = proof_fits; kept = proof_kept }
