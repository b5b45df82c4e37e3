use Rattle.std.proofs.Common.{◌≡◌, ◌+◌, ◌≤◌, length, drop}
use Rattle.world_script.specs.Expecting.{differing_from}
use Rattle.world_script.proofs.expecting.differing_line.Given as goal

abbrev pub invariant-loop-index : goal.invariant-loop-index
invariant-loop-index l =
    (l.line ≤ l.index + 1) × (l.index ≤ length l.printed)
    × (differing_from 1 l.expected l.printed ≡ differing_from l.line (drop l.index l.expected) (drop l.index l.printed))
