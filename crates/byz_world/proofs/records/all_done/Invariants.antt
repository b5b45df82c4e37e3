use Rattle.std.proofs.Common.{◌≡◌, map, take}
use Rattle.byz_world.specs.Audits.{done_in}
use Rattle.byz_world.proofs.records.all_done.Given as goal

abbrev pub invariant-loop-row : goal.invariant-loop-row
invariant-loop-row l = map (λ d. d.now) l.all.items ≡ done_in (take l.row-index l.rows)
