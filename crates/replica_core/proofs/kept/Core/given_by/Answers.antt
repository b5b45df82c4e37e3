use Rattle.std.proofs.Common.{ap, subst}
use Rattle.host_types.specs.Configuration.{IsConfiguration}
use Rattle.replica_core.specs.Replicas.{KeptReplica}
use Rattle.replica_core.proofs.Opening.{given_are}
use Rattle.replica_stores.proofs.Results.{given}
use Rattle.replica_core.proofs.kept.Core.given_by.Goals as goal

pub returns-clause-given : goal.returns-clause-given
returns-clause-given c =
    given_are c.args.self.now c.args.changes.now c.view.result.0 c.in_ok-opening.opening c.requires.to_open c.requires.chosen c.view.ensures
    (subst IsConfiguration (ap (λ (k : KeptReplica). k.config) c.self.view_is) c.self.invariant.legal) c.as_slice.ensures.checked (λ ms same. given _ c.new_view.result c.in_ok-opening.opening c.in_ok-opening.ensures.given (c.new_view.ensures.given ms same))
    (λ legal ms same ordered. given _ c.new_view.result c.in_ok-opening.opening c.in_ok-opening.ensures.given (c.new_view.ensures.few legal ms same ordered))
