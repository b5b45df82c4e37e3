use Rattle.std.proofs.Common.{◌≡◌, ◌+◌, subst}
use Rattle.lms_tree.specs.Keys.{leaf_count}
use Rattle.replica_core.specs.Replicas.{KeptReplica}
use Rattle.replica_core.proofs.Batching.{turn}
use Rattle.replica_core.proofs.kept.Core.report_next.Goals as goal

pub returns-clause-reported : goal.returns-clause-reported
returns-clause-reported c = λ k many ds os r.
    let leaves = subst (λ (k : KeptReplica). k.core.signer.next_leaf + c.leaves_left.result ≡ leaf_count k.core.signer) c.self.view_is c.leaves_left.ensures in
    turn k c.args.self.now many c.args.digest ds c.args.outcome os r c.send_owed.new.self c.report.new.self c.note_act.new.self c.leaves_left.result
    c.in_ok-send_owed.ensures.sent c.in_ok-report.ensures.reported c.note_act.ensures leaves
