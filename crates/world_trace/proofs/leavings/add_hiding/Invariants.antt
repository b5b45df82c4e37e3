use Rattle.std.proofs.Common.{List}
use Rattle.seal.specs.Opening.{CheckedMessage}
use Rattle.world_trace.specs.Heard.{AllRest, AreLeft, IsHeardCommit}
use Rattle.world_trace.proofs.leavings.add_hiding.Given as goal

abbrev pub invariant-loop-change : goal.invariant-loop-change
invariant-loop-change l = (ms : List CheckedMessage) → AreLeft ms l.changes → IsHeardCommit ms l.said → AllRest ms l.fn.news.items → AllRest ms l.news.items
