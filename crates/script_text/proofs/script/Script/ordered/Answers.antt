use Rattle.std.proofs.Common.{◌<◌, ap, arith, length, slice_index_or}
use Rattle.script_text.specs.Orders.{ordered_named}
use Rattle.script_text.specs.declared.script.Step.{Step}
use Rattle.script_text.proofs.Ordering.{one_more}
use Rattle.script_text.proofs.script.Script.ordered.Goals as goal

pub loop-named-preserved : goal.loop-named-preserved
loop-named-preserved c =
    one_more (ordered_named c.args.seed) c.loop-named.named-items c.deref_mut-named-items.result.now c.loop-named.named-index c.named-item.result _ (omega arith) (omega arith)
    c.loop-named.invariant.0 c.loop-named.invariant.1
    (ap (λ (s : Step). record (slice_index_or c.loop-named.named-items c.loop-named.named-index c.named-item.result) { step = s }) c.order_by.ensures)
