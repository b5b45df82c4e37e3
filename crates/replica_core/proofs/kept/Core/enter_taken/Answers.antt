use Rattle.std.proofs.Common.{◌≤◌, subst}
use Rattle.lms_tree.specs.Keys.{leaf_count}
use Rattle.replica_core.specs.Replicas.{KeptReplica}
use Rattle.replica_core.proofs.Fulfilling.{are_taken, has_entered, may_enter}
use Rattle.replica_core.proofs.kept.Core.enter_taken.Goals as goal

pub enter-requires-clause-valid : goal.enter-requires-clause-valid
enter-requires-clause-valid c = λ n is.
    may_enter _ _ _ c.self.invariant c.args.self.now c.in-Some.message c.self.view_is c.in-Some.is c.requires.due c.in_ok-message.message n c.in_ok-message.ensures is

pub returns-clause-entered : goal.returns-clause-entered
returns-clause-entered c =
    has_entered _ _ _ c.self.invariant c.args.self.now c.in-Some.message c.self.view_is c.in-Some.is c.requires.due c.in_ok-message.message c.enter.new.self c.enter.result c.in_ok-message.ensures
    (subst (λ (k : KeptReplica). k.core.signer.next_leaf ≤ leaf_count k.core.signer) c.self.view_is (are_taken c.self.inside.signer c.leaves_left.result c.leaves_left.ensures)) c.enter.ensures.entered
