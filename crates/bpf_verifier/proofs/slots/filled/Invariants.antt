use Rattle.std.proofs.Common.{◌≡◌, map, take}
use Rattle.bpf_verifier.specs.Slots.{or_exit}
use Rattle.bpf_verifier.proofs.slots.filled.Given as goal

abbrev pub invariant-loop-slot : goal.invariant-loop-slot
invariant-loop-slot l = l.list.items ≡ map or_exit (take l.slot-index l.slots)
