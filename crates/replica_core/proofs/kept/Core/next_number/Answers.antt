use Rattle.std.proofs.Common.{arith}
use Rattle.host_types.specs.contracts.SeqNoOrd.TheImpl as order
use Rattle.replica_core.proofs.Numbering.{numbers_fit}
use Rattle.replica_core.proofs.kept.Core.next_number.Goals as goal

pub overflow_add-result : goal.overflow_add-result
overflow_add-result c =
    let fits = numbers_fit order.ghosts.cmp _ _ _ c.self.invariant c.args.self.now c.low.result c.floor.result c.unwrap_or-recorded.result c.greatest.result c.max.result c.max-2.result c.max-last.result c.greatest_in.result c.self.view_is
    c.low.ensures c.floor.ensures c.unwrap_or-recorded.ensures c.greatest_in.ensures.inside c.greatest.ensures c.max.ensures c.max-2.ensures c.max-last.ensures in
    omega (arith, fits)

pub returns-clause-limit : goal.returns-clause-limit
returns-clause-limit c =
    let fits = numbers_fit order.ghosts.cmp _ _ _ c.self.invariant c.args.self.now c.low.result c.floor.result c.unwrap_or-recorded.result c.greatest.result c.max.result c.max-2.result c.max-last.result c.greatest_in.result c.self.view_is
    c.low.ensures c.floor.ensures c.unwrap_or-recorded.ensures c.greatest_in.ensures.inside c.greatest.ensures c.max.ensures c.max-2.ensures c.max-last.ensures in
    omega (arith, fits)
