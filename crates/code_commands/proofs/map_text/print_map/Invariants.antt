use Rattle.std.proofs.Common.{◌≡◌, ◌++◌, flat_map}
use Rattle.std.specs.String.{string_bytes}
use Rattle.code_commands.specs.MapTexts.{line_of, map_text}
use Rattle.code_commands.proofs.map_text.print_map.Given as goal

abbrev pub invariant-loop-key : goal.invariant-loop-key
invariant-loop-key l =
    string_bytes l.text ++ flat_map line_of l.key-iterator ≡ map_text l.shown.entries
