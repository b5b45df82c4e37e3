use Rattle.std.proofs.Common.{◌≡◌, ◌++◌, filter, map, take}
use Rattle.world_queue.specs.Changes.{mangled}
use Rattle.world_queue.specs.Letters.{is_meant}
use Rattle.world_queue.proofs.queue.Queue.mangle.Given as goal

abbrev pub invariant-loop-index : goal.invariant-loop-index
invariant-loop-index l = l.self ≡ l.fn.self ++ map (mangled l.damage) (filter (is_meant l.filter) (take l.index l.fn.self))
