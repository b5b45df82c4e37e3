use Rattle.std.proofs.Common.{◌≡◌, [], drop}
use Rattle.toml.specs.View.{items_view}
use Rattle.script_text.specs.FileUses.{uses_from}
use Rattle.script_text.proofs.file_uses.uses_of.Given as goal

abbrev pub invariant-loop-value : goal.invariant-loop-value
invariant-loop-value l =
    uses_from 0 [] (items_view l.values) ≡ uses_from l.number l.uses.items (items_view (drop l.value-index l.values))
