use Rattle.service_core.proofs.KeysInOrder.{length_prefixed_entries}
use Rattle.service_core.proofs.tenant_reader.read_entries.Goals as goal

pub returns : goal.returns
returns c =
    let here = c.in_ok-count.ensures in
    length_prefixed_entries _ c.in_ok-count.count c.args.bytes.now c.in_ok-count.rest.now c.read_entries_of.result here.0 here.1 c.read_entries_of.ensures
