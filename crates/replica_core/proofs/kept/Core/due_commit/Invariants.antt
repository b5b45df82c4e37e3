use Rattle.pbft_model.specs.Duties.{commit_for}
use Rattle.pbft_model.specs.Setup.{setup_of}
use Rattle.replica_core.proofs.Owed.{NoneYet}
use Rattle.replica_core.proofs.kept.Core.due_commit.Given as goal

abbrev pub invariant-loop-index : goal.invariant-loop-index
invariant-loop-index l = NoneYet l.self.core (commit_for (setup_of l.self.config) l.self.me l.self.core) l.index
