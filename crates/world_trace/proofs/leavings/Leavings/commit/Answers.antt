use Rattle.std.proofs.lemmas.Result.{on_ok_weaker}
use Rattle.world_trace.proofs.leavings.Leavings.commit.Goals as goal

pub returns : goal.returns
returns c = on_ok_weaker c.keep_commit.result (λ after ms said kept rest. (after ms said kept, c.in_ok-add_leavings.ensures ms said kept rest)) c.keep_commit.ensures
