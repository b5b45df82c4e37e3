use Rattle.service_model.proofs.Matches.{match_false}
use Rattle.service_core.proofs.KeysInOrder.{not_above_found, above_or_not}
use Rattle.service_core.proofs.tenant_reader.is_above.Goals as goal

pub returns-then-is_none : goal.returns-then-is_none
returns-then-is_none c =
    above_or_not c.args.entries.now.entries c.args.key.now c.get.result c.next.result c.get.ensures c.if-is_none.ensures c.next.ensures c.is_none-then-is_none.result c.is_none-then-is_none.ensures

pub returns-else-is_none : goal.returns-else-is_none
returns-else-is_none c = match_false _ _ _ c.if-is_none.false (not_above_found c.args.entries.now.entries c.args.key.now c.get.result c.get.ensures c.if-is_none.ensures)
