use Rattle.std.proofs.Common.{◌≡◌, map, take}
use Rattle.byz_world.proofs.world.records_of.Given as goal

abbrev pub invariant-loop-member : goal.invariant-loop-member
invariant-loop-member l =
    (map (λ r. r.0.0) l.records.items ≡ map (λ m. m.replica.me) (take l.member-index l.members))
    × (map (λ r. r.1.items) l.records.items ≡ map (λ m. m.rows) (take l.member-index l.members))
