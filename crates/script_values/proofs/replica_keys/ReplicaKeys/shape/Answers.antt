use Rattle.std.proofs.Common.{sym, subst, ◌≤◌}
use Rattle.script_values.specs.KeyShapes.{leaves_of}
use Rattle.script_values.specs.declared.replica_keys.KeyShape.{KeyShape}
use Rattle.script_values.proofs.KeyLemmas.{spendable}
use Rattle.script_values.proofs.replica_keys.ReplicaKeys.shape.Goals as goal

pub returns-clause-spendable : goal.returns-clause-spendable
returns-clause-spendable c =
    subst (λ (shape : KeyShape). shape.spent ≤ leaves_of shape) (sym c.shape.ensures) (spendable c.self.inside.lists c.from.result c.self.invariant)
