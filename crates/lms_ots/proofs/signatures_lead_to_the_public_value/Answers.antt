use Rattle.lms_ots.proofs.Law.{candidate-signature}
use Rattle.lms_ots.proofs.signatures_lead_to_the_public_value.Goals as goal

pub returns : goal.returns
returns c = λ id secret message leaf. candidate-signature id secret message leaf
