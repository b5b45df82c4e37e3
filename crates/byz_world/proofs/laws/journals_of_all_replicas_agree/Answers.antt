use Rattle.byz_world.proofs.JournalLaws.{all_agree}
use Rattle.byz_world.proofs.laws.journals_of_all_replicas_agree.Goals as goal

pub returns : goal.returns
returns c = λ config signer records are legal many. all_agree config signer records are legal many
