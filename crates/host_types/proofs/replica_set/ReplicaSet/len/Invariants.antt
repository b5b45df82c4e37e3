use Rattle.host_types.proofs.BitLemmas.{CountsBits}
use Rattle.host_types.proofs.replica_set.ReplicaSet.len.Given as goal

abbrev pub invariant-loop-id : goal.invariant-loop-id
invariant-loop-id l = CountsBits l.self-inside.words l.id l.count
