use Rattle.std.proofs.Common.{◌≡◌, take}
use Rattle.byz_world.proofs.member.Member.record.Given as goal

abbrev pub invariant-loop-row : goal.invariant-loop-row
invariant-loop-row l = l.record.items ≡ take l.row-index l.row-items
