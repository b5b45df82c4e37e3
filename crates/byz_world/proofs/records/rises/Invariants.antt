use Rattle.std.proofs.Common.{◌≡◌, map, drop}
use Rattle.byz_world.specs.Audits.{reached}
use Rattle.byz_world.proofs.records.rises.Given as goal

abbrev pub invariant-loop-item : goal.invariant-loop-item
invariant-loop-item l =
    reached 0 (map (λ d. d.now) l.done) ≡ reached l.last (map (λ d. d.now) (drop l.item-index l.done))
