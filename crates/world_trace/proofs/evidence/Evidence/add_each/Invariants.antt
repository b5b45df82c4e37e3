use Rattle.std.proofs.Common.{List}
use Rattle.std.specs.List.{All, Contains}
use Rattle.seal.specs.Opening.{CheckedMessage}
use Rattle.world_trace.specs.Heard.{HasHeard}
use Rattle.world_trace.proofs.evidence.Evidence.add_each.Given as goal

abbrev pub invariant-loop-message : goal.invariant-loop-message
invariant-loop-message l = (ms : List CheckedMessage) → All (Contains ms) l.messages → HasHeard ms l.fn.self → HasHeard ms l.self
