use Rattle.std.proofs.Common.{arith}
use Rattle.replica_core.proofs.Leafage.{leaf_count_small}
use Rattle.replica_core.proofs.kept.Core.sign.Goals as goal

pub overflow_add-self : goal.overflow_add-self
overflow_add-self c =
    let few = c.self.invariant.few in
    let all = c.leaves_left.ensures in
    let small = leaf_count_small c.self.inside.signer in
    omega arith
