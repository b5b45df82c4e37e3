use Rattle.std.proofs.Common.{◌≡◌, ◌≤◌, take}
use Rattle.world_queue.specs.Letters.{meant_count}
use Rattle.world_queue.proofs.queue.Queue.count_meant.Given as goal

abbrev pub invariant-loop-index : goal.invariant-loop-index
invariant-loop-index l = (l.count ≤ l.index) × (l.count ≡ meant_count l.filter (take l.index l.self))
