use Rattle.std.proofs.Common.{◌≡◌, take}
use Rattle.script_values.specs.Forms.{joined}
use Rattle.script_values.proofs.lines.joined.Given as goal

abbrev pub invariant-loop-line : goal.invariant-loop-line
invariant-loop-line l = l.text.items ≡ joined (take l.line-index l.lines)
