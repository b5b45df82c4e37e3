use Rattle.std.proofs.Common.{◌≡◌, drop, map, take}
use Rattle.script_text.specs.Orders.{ordered_named}
use Rattle.script_text.proofs.script.Script.ordered.Given as goal

abbrev pub invariant-loop-named : goal.invariant-loop-named
invariant-loop-named l =
    (take l.named-index l.named-items ≡ map (ordered_named l.seed) (take l.named-index l.initial.named-items))
    × (drop l.named-index l.named-items ≡ drop l.named-index l.initial.named-items)
