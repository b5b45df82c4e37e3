-- As `Again.antt` has it.
use Rattle.journal_laws.proofs.Again.{goes_on, the_same}
use Rattle.journal_laws.proofs.what_is_taken_again_gives_the_same_rows.Goals as goal

pub returns-clause-more : goal.returns-clause-more
returns-clause-more c = λ setup me s t last rows all more w v is. goes_on setup me rows all more s t last w v is

pub returns-clause-same : goal.returns-clause-same
returns-clause-same c = λ setup me s t u rows again w v is. the_same setup me rows again s t u w v is
