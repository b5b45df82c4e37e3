use Rattle.replica_core.proofs.Leaving.{leaves}
use Rattle.replica_core.proofs.kept.Core.leave_for.Goals as goal

pub returns-clause-left : goal.returns-clause-left
returns-clause-left c =
    leaves _ _ _ c.self.invariant c.args.self.now _ c.args.view.0 c.leave.new.self c.drop_below.new.self c.clear_view.new.self c.self.view_is c.in_ok-keep_certificates.ensures.kept
    c.leave.ensures c.drop_below.ensures c.clear_view.ensures
