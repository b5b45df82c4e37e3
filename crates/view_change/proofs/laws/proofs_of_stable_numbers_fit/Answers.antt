use Rattle.view_change.proofs.StableProofs.{stable_proof}
use Rattle.view_change.proofs.laws.proofs_of_stable_numbers_fit.Goals as goal

pub returns : goal.returns
returns c = stable_proof
