use Rattle.std.proofs.Common.{◌≡◌, ◌≤◌, [], drop}
use Rattle.std.specs.Prelude.{Ok}
use Rattle.toml.specs.View.{items_view}
use Rattle.script_text.specs.Scripts.{steps_from}
use Rattle.script_text.proofs.document.read_each_step.Given as goal

abbrev pub invariant-loop-value : goal.invariant-loop-value
invariant-loop-value l =
    (steps_from l.dialect l.files l.head 0 (Ok []) (items_view l.values)
    ≡ steps_from l.dialect l.files l.head l.number (Ok l.steps.items) (items_view (drop l.value-index l.values)))
    × (l.number ≤ l.value-index)
