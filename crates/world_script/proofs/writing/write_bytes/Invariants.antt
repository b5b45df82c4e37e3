use Rattle.std.proofs.Common.{◌≤◌, length, take}
use Rattle.std.specs.Io.KnownBytes.{Appends}
use Rattle.world_script.proofs.writing.write_bytes.Given as goal

abbrev pub invariant-loop : goal.invariant-loop
invariant-loop g l = (l.at ≤ length l.bytes) × Appends (g.O.Write.contents l.fn.writer) (g.O.Write.contents l.writer) (take l.at l.bytes)
