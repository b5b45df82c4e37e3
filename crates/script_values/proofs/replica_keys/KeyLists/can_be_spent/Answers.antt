use Rattle.std.proofs.Common.{length, sym, ap, ◌∙◌, below_more, arith}
use Rattle.script_values.specs.KeyShapes.{count_of, has_leaves}
use Rattle.script_values.proofs.KeyLemmas.{are_spent, is_overspent}
use Rattle.script_values.proofs.replica_keys.KeyLists.can_be_spent.Goals as goal

pub returns-then-not-has_leaves : goal.returns-then-not-has_leaves
returns-then-not-has_leaves c =
    sym (is_overspent c.args.self.now c.loop-id.id (omega (arith, ap count_of c.in-Some.is, ap length c.as_slice-id-end.ensures))
    (ap has_leaves (sym c.shape.ensures) ∙ sym c.has_leaves.ensures ∙ c.if-not-has_leaves.true))

pub loop-id-preserved : goal.loop-id-preserved
loop-id-preserved c =
    below_more _ _ c.loop-id.invariant (ap has_leaves (sym c.shape.ensures) ∙ sym c.has_leaves.ensures ∙ c.if-not-has_leaves.false)

pub returns : goal.returns
returns c =
    sym (are_spent c.args.self.now (λ k below. c.loop-id.invariant k (omega (arith, below, ap count_of c.in-Some.is, ap length c.as_slice-id-end.ensures))))
