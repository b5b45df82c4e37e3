use Rattle.replica_core.proofs.Reacting.{run_is_allowed, run_is_lawful}
use Rattle.replica_core.proofs.replica.rows_are_lawful.Goals as goal

pub returns-clause-lawful : goal.returns-clause-lawful
returns-clause-lawful c = run_is_lawful

pub returns-clause-allowed : goal.returns-clause-allowed
returns-clause-allowed c = run_is_allowed
