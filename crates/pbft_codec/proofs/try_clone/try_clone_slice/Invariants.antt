use Rattle.std.proofs.Common.{◌≡◌, take}
use Rattle.pbft_codec.proofs.try_clone.try_clone_slice.Given as goal

abbrev pub invariant-loop-value : goal.invariant-loop-value
invariant-loop-value g l = l.copies.items ≡ take l.value-index l.values
