use Rattle.std.proofs.Common.{◌≡◌}
use Rattle.thread_tests.proofs.early.keep_all.Given as goal

abbrev pub invariant-loop-vote : goal.invariant-loop-vote
invariant-loop-vote l = l.held.config ≡ l.fn.held.config
