use Rattle.std.proofs.Common.{Err, ap}
use Rattle.std.specs.Prelude.{codes}
use Rattle.toml.specs.View.{table_view}
use Rattle.script_values.specs.Forms.{forged_kind, needed_key, pair_of}
use Rattle.script_text.specs.Steps.{forgery_from, forgery_of, route_in}
use Rattle.script_text.proofs.Unless.{fault_itself, goes_on, memory_pair}
use Rattle.script_text.proofs.forgery_keys.read_forgery.Goals as goal

pub returns-in-Err : goal.returns-in-Err
returns-in-Err c =
    let names = c.args.names.now in
    let members = table_view c.args.table.now in
    let route = route_in names.count names.faulty.now names.clients.now members in
    goes_on c.in-Err.fault (needed_key forged_kind (codes "kind") members) (λ kind. forgery_of kind names.count names.faulty.now names.clients.now members) c.as_forgery.result
    (ap forgery_from (memory_pair route)) c.in-Err.ensures
    (c.as_forgery.ensures (pair_of (Err c.in-Err.fault) route) (c.pair.ensures (Err c.in-Err.fault) route (fault_itself _ c.in-Err.fault) c.read_route.ensures))
