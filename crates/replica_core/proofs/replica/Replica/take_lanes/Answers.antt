use Rattle.std.proofs.Common.{sym, ◌∙◌}
use Rattle.replica_core.specs.declared.row.Input.TheVariants as inputs
use Rattle.replica_core.proofs.Reacting.{went}
use Rattle.replica_core.proofs.replica.Replica.take_lanes.Goals as goal

pub returns-in-Ok : goal.returns-in-Ok
returns-in-Ok g c =
    went _ _ c.self.inside.core c.self.inside.status c.self.invariant c.in-Some.core c.args.self.now (inputs.Message c.args.message.now) c.self.view_is (sym c.take.ensures.value ∙ c.in-Some.is)
    c.in-Ok.core c.in-Ok.row c.status_of-self-inside.result c.in-Ok.ensures.row c.status_of-self-inside.ensures
