-- As `Claimed.antt` has it.
use Rattle.journal_laws.proofs.Claimed.{claims_agree}
use Rattle.journal_laws.proofs.own_claims_have_one_digest.Goals as goal

pub returns : goal.returns
returns c = claims_agree
