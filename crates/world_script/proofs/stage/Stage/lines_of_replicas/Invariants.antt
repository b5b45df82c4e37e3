use Rattle.std.proofs.Common.{◌≡◌}
use Rattle.std.specs.String.{string_bytes}
use Rattle.world_script.specs.Printing.{line_printed}
use Rattle.world_script.proofs.Printed.{text_of}
use Rattle.world_script.proofs.stage.Stage.lines_of_replicas.Given as goal

abbrev pub invariant-loop-id : goal.invariant-loop-id
invariant-loop-id l = string_bytes l.text ≡ text_of (line_printed l.line l.self.world) l.id
