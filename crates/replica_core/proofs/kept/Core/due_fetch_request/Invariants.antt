use Rattle.pbft_model.specs.Setup.{setup_of}
use Rattle.replica_core.specs.Meanings.{fetch_for}
use Rattle.replica_core.proofs.Owed.{NoneYet}
use Rattle.replica_core.proofs.kept.Core.due_fetch_request.Given as goal

abbrev pub invariant-loop-index : goal.invariant-loop-index
invariant-loop-index l = NoneYet l.self.core (fetch_for (setup_of l.self.config) l.self.me l.self.core) l.index
