use Rattle.std.proofs.Common.{ap, subst, sym}
use Rattle.seal.specs.Opening.{CheckedMessage}
use Rattle.replica_stores.specs.Sealable.{HasShortLists}
use Rattle.replica_core.specs.Replicas.{KeptReplica}
use Rattle.replica_core.specs.OwnViewChange.{own_view_change}
use Rattle.replica_core.proofs.Ascending.{its_lists}
use Rattle.replica_core.proofs.Changed.{changed}
use Rattle.replica_core.proofs.kept.Core.change_to.Goals as goal

pub send-requires-clause-sealable : goal.send-requires-clause-sealable
send-requires-clause-sealable c =
    let short = its_lists _ _ _ c.self.invariant c.args.self.now c.self.view_is c.args.view.0 c.requires.higher c.requires.reached in
    c.in_ok-body.ensures.sealable (subst (λ (x : KeptReplica). HasShortLists (own_view_change x.core c.args.view)) (sym c.in_ok-leave_for.ensures.left) short)

pub returns-clause-says : goal.returns-clause-says
returns-clause-says c =
    changed _ _ _ c.self-2.invariant c.args.self.now c.leave_for.new.self c.send.new.self c.args.view c.in_ok-body.body c.in_ok-message.message c.keep.new.self c.self-2.view_is c.in_ok-leave_for.ensures.left
    c.in_ok-body.ensures.made c.in_ok-message.ensures.after (ap (λ (m : CheckedMessage). m.message) c.in_ok-message.ensures.signed) c.in_ok-keep.ensures.kept
