use Rattle.std.proofs.Common.{List}
use Rattle.seal.specs.Opening.{CheckedMessage}
use Rattle.world_trace.specs.Heard.{AllRest, IsHeardLeft, KeepsHeard}
use Rattle.world_trace.proofs.leavings.Leavings.add_commits.Given as goal

abbrev pub invariant-loop : goal.invariant-loop
invariant-loop l = (ms : List CheckedMessage) → IsHeardLeft ms l.left → KeepsHeard ms l.self → AllRest ms l.fn.news.items → AllRest ms l.news.items
