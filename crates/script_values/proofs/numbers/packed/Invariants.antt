use Rattle.std.proofs.Common.{◌≡◌, take}
use Rattle.script_values.specs.Forms.{packed}
use Rattle.script_values.proofs.numbers.packed.Given as goal

abbrev pub invariant-loop-number : goal.invariant-loop-number
invariant-loop-number l = l.bytes.items ≡ packed (take l.number-index l.numbers)
