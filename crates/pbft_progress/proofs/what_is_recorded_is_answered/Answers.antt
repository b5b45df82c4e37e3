-- As `proofs/Voting.antt` has it.
use Rattle.pbft_progress.proofs.Voting.{backs_proposal, commits_prepared, executes_committed}
use Rattle.pbft_progress.proofs.what_is_recorded_is_answered.Goals as goal

pub returns : goal.returns
returns k = record { prepare = backs_proposal; commit = commits_prepared; execute = executes_committed }
