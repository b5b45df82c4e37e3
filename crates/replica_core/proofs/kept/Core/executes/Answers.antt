use Rattle.pbft_model.specs.Setup.{setup_of}
use Rattle.replica_core.specs.declared.duties.Duty.TheVariants as duties
use Rattle.replica_core.proofs.Asking.{as_duty}
use Rattle.replica_core.proofs.Batching.{executing}
use Rattle.replica_core.proofs.kept.Core.executes.Goals as goal

pub returns-in-Execute : goal.returns-in-Execute
returns-in-Execute c = λ yes.
    executing (setup_of c.args.self.now.config) c.args.self.now.me c.args.self.now.core c.in-Execute.field-0 c.in-Execute.field-1
    (as_duty (setup_of c.args.self.now.config) c.args.self.now.me c.args.self.now.core c.args.duty (duties.Execute c.in-Execute.field-0 c.in-Execute.field-1) c.requires.due c.in-Execute.is)
