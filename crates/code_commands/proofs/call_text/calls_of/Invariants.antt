use Rattle.std.proofs.Common.{◌≡◌, ◌+◌, [], drop, map}
use Rattle.code_commands.specs.Calls.{said, with_line}
use Rattle.code_commands.specs.Folds.{folded, texts}
use Rattle.code_commands.proofs.call_text.calls_of.Given as goal

abbrev pub invariant-loop-index : goal.invariant-loop-index
invariant-loop-index l =
    folded (with_line l.client) [] 1 (texts l.lines) ≡ folded (with_line l.client) (map said l.calls.items) (l.index + 1) (texts (drop l.index l.lines))
