use Rattle.std.proofs.Common.{◌≡◌, map, take}
use Rattle.byz_world.specs.Audits.{all_done, all_rise}
use Rattle.byz_world.specs.Noting.{IsNoted}
use Rattle.byz_world.proofs.records.audit.Given as goal

abbrev pub invariant-loop-record : goal.invariant-loop-record
invariant-loop-record l =
    IsNoted (all_done (map (λ r. r.1.items) (take l.record-index l.records))) l.noted
    × (l.all_rise ≡ all_rise (map (λ r. r.1.items) (take l.record-index l.records)))
