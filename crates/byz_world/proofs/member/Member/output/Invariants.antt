use Rattle.std.proofs.Common.{◌≡◌, drop}
use Rattle.std.specs.Prelude.{slice_get, flat_map}
use Rattle.byz_world.specs.Worlds.{output_at}
use Rattle.byz_world.proofs.member.Member.output.Given as goal

abbrev pub invariant-loop-row : goal.invariant-loop-row
invariant-loop-row l = slice_get (flat_map (λ row. row.outputs) (drop l.row-index l.row-items)) l.left ≡ output_at l.fn.self.rows l.number
