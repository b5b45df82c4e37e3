use Rattle.std.proofs.Common.{◌≡◌, ◌+◌, subst}
use Rattle.lms_tree.specs.Keys.{leaf_count}
use Rattle.replica_core.specs.Replicas.{KeptReplica}
use Rattle.replica_core.proofs.Dispatch.{advances}
use Rattle.replica_core.proofs.kept.Core.act.Goals as goal

pub returns-clause-done : goal.returns-clause-done
returns-clause-done c =
    let leaves = subst (λ (k : KeptReplica). k.core.signer.next_leaf + c.leaves_left.result ≡ leaf_count k.core.signer) c.self.view_is c.leaves_left.ensures in
    advances c.args.self.now c.fulfil.new.self c.note_act.new.self c.leaves_left.result c.in_ok-fulfil.ensures.done c.note_act.ensures leaves
