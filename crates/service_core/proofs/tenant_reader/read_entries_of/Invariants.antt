use Rattle.std.specs.FinMap as finite
use Rattle.service_core.proofs.KeysInOrder.{entry_encoding, IsSized}
use Rattle.service_core.proofs.Encoded.{HasRead}
use Rattle.service_core.proofs.tenant_reader.read_entries_of.Given as goal

abbrev pub invariant-loop : goal.invariant-loop
invariant-loop l = HasRead entry_encoding IsSized l.bytes (finite.entries l.entries.entries) l.counter l.rest
