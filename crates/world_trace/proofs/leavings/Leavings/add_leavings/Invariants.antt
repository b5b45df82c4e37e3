use Rattle.std.proofs.Common.{List}
use Rattle.seal.specs.Opening.{CheckedMessage}
use Rattle.world_trace.specs.Heard.{AllRest, IsHeardCommit, KeepsHeard}
use Rattle.world_trace.proofs.leavings.Leavings.add_leavings.Given as goal

abbrev pub invariant-loop-later : goal.invariant-loop-later
invariant-loop-later l = (ms : List CheckedMessage) → IsHeardCommit ms l.said → KeepsHeard ms l.fn.self → AllRest ms l.fn.news.items → AllRest ms l.news.items
