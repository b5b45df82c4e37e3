-- As `proofs/Noting.antt` has it.
use Rattle.pbft_progress.proofs.Noting.{prepares_said, commits_said, proposals_said}
use Rattle.pbft_progress.proofs.what_is_noted_was_said.Goals as goal

pub returns : goal.returns
returns k = record { prepares = prepares_said; commits = commits_said; proposals = proposals_said }
