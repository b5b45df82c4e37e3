use Rattle.std.proofs.Common.{◌≡◌, take}
use Rattle.seal.specs.Lists.{CheckedMessages}
use Rattle.replica_core.specs.Opens.{after_leaves, signed_by_all}
use Rattle.replica_core.specs.Replicas.{KeptReplica}
use Rattle.replica_core.proofs.kept.Core.signed_list.Given as goal

abbrev pub invariant-loop-said : goal.invariant-loop-said
invariant-loop-said l =
    (◌≡◌ {A = CheckedMessages} l.signed (signed_by_all l.fn.self (take l.said-index l.fn.entries)))
    × (◌≡◌ {A = KeptReplica} l.self (after_leaves l.fn.self l.said-index))
