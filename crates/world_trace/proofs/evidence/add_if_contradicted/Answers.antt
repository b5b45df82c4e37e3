use Rattle.std.proofs.Common.{rules}
use Rattle.conflicts.specs.Claims.{Contradict}
use Rattle.world_trace.specs.Heard.{RestsOn}
use Rattle.world_trace.proofs.Resting.{more_items}
use Rattle.world_trace.proofs.evidence.add_if_contradicted.Goals as goal

pub returns-in_ok-push : goal.returns-in_ok-push
returns-in_ok-push c = λ ms one other old.
    let contradict : Contradict c.args.one.now c.args.other = search rules in
    more_items (RestsOn ms) c.args.news.now c.push.new.self _ c.in_ok-push.ensures.items old (one, other, contradict)
