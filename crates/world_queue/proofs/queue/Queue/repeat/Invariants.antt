use Rattle.std.proofs.Common.{◌≡◌, ◌++◌, filter, take}
use Rattle.world_queue.specs.Letters.{is_meant}
use Rattle.world_queue.proofs.queue.Queue.repeat.Given as goal

abbrev pub invariant-loop-index : goal.invariant-loop-index
invariant-loop-index l = l.self ≡ l.fn.self ++ filter (is_meant l.filter) (take l.index l.fn.self)
