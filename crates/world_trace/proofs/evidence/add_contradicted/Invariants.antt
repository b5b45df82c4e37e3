use Rattle.std.proofs.Common.{List}
use Rattle.seal.specs.Opening.{CheckedMessage}
use Rattle.world_trace.specs.Heard.{AllRest, AreClaimed, IsClaimed}
use Rattle.world_trace.proofs.evidence.add_contradicted.Given as goal

abbrev pub invariant-loop-earlier : goal.invariant-loop-earlier
invariant-loop-earlier l = (ms : List CheckedMessage) → IsClaimed ms l.fn.claim → AreClaimed ms l.said → AllRest ms l.fn.news.items → AllRest ms l.news.items
