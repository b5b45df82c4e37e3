use Rattle.std.proofs.Common.{map}
use Rattle.toml.specs.View.{table_view}
use Rattle.script_values.specs.Forms.{pair_of, only_keys}
use Rattle.script_text.specs.Steps.{selection_in}
use Rattle.script_text.proofs.step_keys.read_deliver_in.Goals as goal

pub returns : goal.returns
returns c d h =
    let selection = selection_in c.args.names.now.count c.args.names.now.clients.now (table_view c.args.table.now) in
    let named = pair_of d selection in
    c.as_deliver.ensures (only_keys named (map (λ k. k.now) c.args.keys.now) (table_view c.args.table.now))
    (c.with_only.ensures named (c.pair-named.ensures d selection h c.read_selection.ensures))
