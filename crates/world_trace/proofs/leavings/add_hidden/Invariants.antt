use Rattle.std.proofs.Common.{List}
use Rattle.seal.specs.Opening.{CheckedMessage}
use Rattle.world_trace.specs.Heard.{AllRest, AreCommits, IsHeardLeft}
use Rattle.world_trace.proofs.leavings.add_hidden.Given as goal

abbrev pub invariant-loop-said : goal.invariant-loop-said
invariant-loop-said l = (ms : List CheckedMessage) → IsHeardLeft ms l.left → AreCommits ms l.commits → AllRest ms l.fn.news.items → AllRest ms l.news.items
