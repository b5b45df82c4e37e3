use Rattle.std.proofs.Common.{◌≡◌, ◌<◌, ℕ, true}
use Rattle.script_values.specs.KeyShapes.{has_leaves, shape_at}
use Rattle.script_values.proofs.replica_keys.KeyLists.can_be_spent.Given as goal

abbrev pub invariant-loop-id : goal.invariant-loop-id
invariant-loop-id l = (k : ℕ) → k < l.id → has_leaves (shape_at l.self k) ≡ true
