use Rattle.std.proofs.Common.{◌≡◌, ◌++◌, take}
use Rattle.world_queue.specs.Letters.{copies}
use Rattle.world_queue.proofs.queue.Queue.send.Given as goal

abbrev pub invariant-loop-node : goal.invariant-loop-node
invariant-loop-node l = l.self ≡ l.fn.self ++ copies l.letter (take l.node-index l.to)
