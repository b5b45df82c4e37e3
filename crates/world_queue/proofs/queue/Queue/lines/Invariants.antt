use Rattle.std.proofs.Common.{◌≡◌, filter, take}
use Rattle.std.specs.List.{flat_map}
use Rattle.std.specs.String.{string_bytes}
use Rattle.world_queue.specs.Letters.{is_meant}
use Rattle.world_queue.specs.Lines.{letter_line}
use Rattle.world_queue.proofs.queue.Queue.lines.Given as goal

abbrev pub invariant-loop-index : goal.invariant-loop-index
invariant-loop-index l = string_bytes l.text ≡ flat_map letter_line (filter (is_meant l.filter) (take l.index l.self))
