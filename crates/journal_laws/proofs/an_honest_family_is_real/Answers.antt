-- Two of its fields.
use Rattle.journal_laws.proofs.an_honest_family_is_real.Goals as goal

pub returns : goal.returns
returns c = λ setup j honest. record { lawful = honest.lawful; real = honest.real }
