use Rattle.std.proofs.Common.{◌≡◌, ◌+◌, take}
use Rattle.world_queue.specs.Letters.{meant_count}
use Rattle.world_queue.proofs.queue.Queue.place_of.Given as goal

abbrev pub invariant-loop-index : goal.invariant-loop-index
invariant-loop-index l = meant_count l.filter (take l.index l.self) + l.left ≡ l.passed
