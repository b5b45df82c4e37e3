use Rattle.std.proofs.Common.{◌≡◌, ◌+◌, [], drop}
use Rattle.code_commands.specs.Numbers.{with_word}
use Rattle.code_commands.specs.Folds.{folded, texts}
use Rattle.code_commands.proofs.decimal.bytes_of.Given as goal

abbrev pub invariant-loop-index : goal.invariant-loop-index
invariant-loop-index l =
    folded with_word [] 1 (texts l.words) ≡ folded with_word l.bytes.items (l.index + 1) (texts (drop l.index l.words))
