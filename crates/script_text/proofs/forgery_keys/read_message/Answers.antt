use Rattle.std.proofs.Common.{map}
use Rattle.toml.specs.View.{table_view}
use Rattle.script_values.specs.Forms.{pair_of, only_keys}
use Rattle.script_text.specs.Steps.{route_in}
use Rattle.script_text.proofs.forgery_keys.read_message.Goals as goal

pub returns : goal.returns
returns c m h =
    let route = route_in c.args.names.now.count c.args.names.now.faulty.now c.args.names.now.clients.now (table_view c.args.table.now) in
    let named = pair_of m route in
    c.as_forgery.ensures (only_keys named (map (λ k. k.now) c.args.keys.now) (table_view c.args.table.now))
    (c.with_only.ensures named (c.pair-named.ensures m route h c.read_route.ensures))
