use Rattle.std.proofs.lemmas.Result.{on_ok_weaker}
use Rattle.world_trace.proofs.leavings.Leavings.leave.Goals as goal

pub returns : goal.returns
returns c = on_ok_weaker c.keep_leaving.result (λ after ms left kept rest. (after ms left kept, c.in_ok-add_commits.ensures ms left kept rest)) c.keep_leaving.ensures
