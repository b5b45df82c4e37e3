use Rattle.verifier_laws.proofs.Profiles.{second_accepts, first_refuses}
use Rattle.verifier_laws.proofs.the_second_profile_accepts_no_less.Goals as goal

pub returns-clause-accepted : goal.returns-clause-accepted
returns-clause-accepted c = second_accepts

pub returns-clause-refused : goal.returns-clause-refused
returns-clause-refused c = first_refuses
