use Rattle.std.proofs.Common.{◌≡◌, List, [], drop}
use Rattle.std.specs.Prelude.{Result, Ok}
use Rattle.toml.specs.View.{items_view}
use Rattle.script_values.specs.declared.fault.TableFault.{TableFault}
use Rattle.script_values.specs.Faults.{IsUnlessMemory}
use Rattle.script_values.specs.Forms.{each_from, items_in}
use Rattle.script_values.proofs.values.read_each.Given as goal

abbrev pub invariant-loop-value : goal.invariant-loop-value
invariant-loop-value g l =
    (s : Result (List g.row.F-Says.Denot) TableFault) × IsUnlessMemory (items_in l.read) s
    × (each_from (g.F.Form.reads l.form) (Ok []) (items_view l.values) ≡ each_from (g.F.Form.reads l.form) s (items_view (drop l.value-index l.values)))
