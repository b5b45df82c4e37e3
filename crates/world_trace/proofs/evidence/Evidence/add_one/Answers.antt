use Rattle.std.proofs.lemmas.Result.{on_ok_weaker}
use Rattle.world_trace.proofs.evidence.Evidence.add_one.Goals as goal

pub returns : goal.returns
returns c = on_ok_weaker c.hear_leaf.result (λ last ms here heard. last ms here (c.in_ok-hear_change.ensures ms here (c.in_ok-hear_vote.ensures ms here heard))) c.hear_leaf.ensures
