use Rattle.std.proofs.Common.{◌≡◌, ◌++◌, map, take}
use Rattle.byz_world.proofs.records.push_all.Given as goal

abbrev pub invariant-loop-item : goal.invariant-loop-item
invariant-loop-item l =
    map (λ d. d.now) l.all.items ≡ map (λ d. d.now) l.initial.all.items ++ take l.item-index l.done
