use Rattle.std.proofs.Common.{◌≡◌, ◌+◌, drop}
use Rattle.std.specs.FinMap as map
use Rattle.code_commands.specs.MapTexts.{with_line}
use Rattle.code_commands.specs.Folds.{folded, texts}
use Rattle.code_commands.proofs.map_text.map_of.Given as goal

abbrev pub invariant-loop-index : goal.invariant-loop-index
invariant-loop-index l =
    folded with_line map.empty 1 (texts l.lines) ≡ folded with_line l.found.entries (l.index + 1) (texts (drop l.index l.lines))
