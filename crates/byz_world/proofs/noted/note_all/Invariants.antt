use Rattle.std.proofs.Common.{List, ◌++◌, map, take}
use Rattle.replica_journal.specs.Done.{Done}
use Rattle.byz_world.specs.Noting.{IsNoted}
use Rattle.byz_world.proofs.noted.note_all.Given as goal

abbrev pub invariant-loop-item : goal.invariant-loop-item
invariant-loop-item l =
    (before : List Done) → IsNoted before l.initial.noted → IsNoted (before ++ map (λ d. d.now) (take l.item-index l.done)) l.noted
