-- Journals with a row more, as `Unique.antt`, `Reporting.antt` and `Leaves.antt` have it.
use Rattle.pbft_agreement.proofs.Reporting.{one_core}
use Rattle.pbft_model.proofs.Leaves.{signer_rows}
use Rattle.pbft_model.proofs.Unique.{one_row_more}
use Rattle.pbft_agreement.proofs.a_journal_grows.Goals as goal

pub returns-clause-row : goal.returns-clause-row
returns-clause-row c = λ setup me s t u rows row w next. one_row_more setup me rows row s t u w next

pub returns-clause-core : goal.returns-clause-core
returns-clause-core c = λ setup me s t u rows w v. one_core setup me s.signer rows s t u w v

pub returns-clause-leaves : goal.returns-clause-leaves
returns-clause-leaves c = signer_rows
