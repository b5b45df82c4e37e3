use Rattle.std.proofs.Common.{◌≡◌, map, take}
use Rattle.world_script.specs.Keys.{entry_of}
use Rattle.world_script.proofs.keys.client_entries.Given as goal

abbrev pub invariant-loop-index : goal.invariant-loop-index
invariant-loop-index l = l.entries.items ≡ map (entry_of l.head) (take l.index l.head.clients)
