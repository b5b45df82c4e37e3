use Rattle.replica_core.proofs.Opening.{chosen_is}
use Rattle.replica_core.proofs.kept.Core.chosen.Goals as goal

pub returns-clause-chosen : goal.returns-clause-chosen
returns-clause-chosen c =
    chosen_is _ _ _ c.self.invariant c.args.self.now c.self.view_is c.view.result.0 c.view.ensures c.in_ok-changes.changes c.in_ok-changes.ensures
