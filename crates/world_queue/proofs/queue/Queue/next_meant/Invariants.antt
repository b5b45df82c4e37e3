use Rattle.std.proofs.Common.{◌≡◌, ◌++◌, length, None}
use Rattle.world_queue.specs.Letters.{first_meant}
use Rattle.world_queue.proofs.queue.Queue.next_meant.Given as goal

abbrev pub decreases-loop-letter : goal.decreases-loop-letter
decreases-loop-letter l = length l.self

abbrev pub invariant-loop-letter : goal.invariant-loop-letter
invariant-loop-letter l =
    (first_meant l.filter l.others ≡ None) × (l.others ++ l.self ≡ l.fn.others ++ l.fn.self)
