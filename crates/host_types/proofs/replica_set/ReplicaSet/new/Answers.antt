use Rattle.host_types.proofs.BitLemmas.{empty_of_no_bits}
use Rattle.host_types.proofs.replica_set.ReplicaSet.new.Goals as goal

pub returns : goal.returns
returns c = empty_of_no_bits 256
