use Rattle.std.proofs.Common.{◌≤◌, length}
use Rattle.std.specs.Io.KnownBytes.{Consumes}
use Rattle.world_script.proofs.input.read_input.Given as goal

abbrev pub invariant-loop : goal.invariant-loop
invariant-loop g l = (l.counter ≤ length l.input.items) × Consumes (g.I.Read.remaining l.fn.reader) (g.I.Read.remaining l.reader) l.input.items
