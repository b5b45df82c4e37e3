use Rattle.pbft_model.specs.Duties.{prepare_for}
use Rattle.pbft_model.specs.Setup.{setup_of}
use Rattle.replica_core.proofs.Owed.{NoneYet}
use Rattle.replica_core.proofs.kept.Core.due_prepare.Given as goal

abbrev pub invariant-loop-index : goal.invariant-loop-index
invariant-loop-index l = NoneYet l.self.core (prepare_for (setup_of l.self.config) l.self.me l.self.core) l.index
