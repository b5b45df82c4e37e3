use Rattle.std.proofs.Common.{◌≡◌, map, take}
use Rattle.replica_threads.proofs.furnishing.next_leaves.Given as goal

abbrev pub invariant-loop-signer : goal.invariant-loop-signer
invariant-loop-signer l = l.leaves.items ≡ map (λ s. s.next_leaf) (take l.signer-index l.signers)
