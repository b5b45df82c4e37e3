use Rattle.std.proofs.Common.{◌∙◌}
use Rattle.std.specs.List.{Contains}
use Rattle.std.proofs.lemmas.List.Elements.{All-head, All-same, All-tail}
use Rattle.std.proofs.lemmas.Result.{on_ok_weaker}
use Rattle.world_trace.specs.Heard.{carried_by}
use Rattle.world_trace.proofs.evidence.Evidence.add_inside.Goals as goal

pub returns : goal.returns
returns c = on_ok_weaker c.add_each.result
    (λ each ms all heard.
    let m = c.args.message.now in
    each ms (All-same (Contains ms) c.deref.result.now (carried_by m) (c.deref.ensures.value ∙ c.in_ok-carried.ensures.messages) (All-tail (Contains ms) m (carried_by m) all))
    (c.in_ok-add_one.ensures ms (All-head (Contains ms) m (carried_by m) all) heard))
    c.add_each.ensures
