use Rattle.std.proofs.Common.{sym, ◌∙◌}
use Rattle.replica_core.specs.declared.row.Input.TheVariants as inputs
use Rattle.replica_core.proofs.Reacting.{went}
use Rattle.replica_core.proofs.replica.Replica.timeout.Goals as goal

pub returns-in-Ok : goal.returns-in-Ok
returns-in-Ok c =
    went _ _ c.self.inside.core c.self.inside.status c.self.invariant c.in-Some.core c.args.self.now inputs.Timeout c.self.view_is (sym c.take.ensures.value ∙ c.in-Some.is)
    c.answer_timeout.new.self c.in-Ok.row c.status_of-self-inside.result c.in-Ok.ensures c.status_of-self-inside.ensures
