use Rattle.std.proofs.Common.{◌∙◌}
use Rattle.std.specs.List.{All, Contains, flat_map}
use Rattle.std.proofs.lemmas.List.Elements.{All-head, All-same, All-tail}
use Rattle.std.proofs.lemmas.Result.{on_ok_weaker}
use Rattle.seal.specs.Opening.{CheckedMessage}
use Rattle.world_trace.specs.Heard.{carried_by, with_carried}
use Rattle.world_trace.proofs.Resting.{pieces}
use Rattle.world_trace.proofs.evidence.Evidence.add_whole.Goals as goal

pub returns : goal.returns
returns c = on_ok_weaker c.add_each_inside.result
    (λ each ms all heard.
    let m = c.args.message.now in
    let inside = flat_map with_carried (carried_by m) in
    let parts = pieces (Contains ms) with_carried (carried_by m) (All-tail (Contains ms) m inside all) in
    each ms (All-same (λ (x : CheckedMessage). All (Contains ms) (with_carried x)) c.deref.result.now (carried_by m) (c.deref.ensures.value ∙ c.in_ok-carried.ensures.messages) parts)
    (c.in_ok-add_one.ensures ms (All-head (Contains ms) m inside all) heard))
    c.add_each_inside.ensures
