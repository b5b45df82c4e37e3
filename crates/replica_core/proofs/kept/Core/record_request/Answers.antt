use Rattle.std.proofs.Common.{ap}
use Rattle.replica_stores.specs.Stores.{KeptRequests}
use Rattle.replica_core.proofs.Wholes.{a_request, with_requests}
use Rattle.replica_core.proofs.kept.Core.record_request.Goals as goal

pub invariant_of-self-2 : goal.invariant_of-self-2
invariant_of-self-2 c =
    let b = a_request c.args.message.now.message.body c.requires.kind in
    with_requests _ _ _ c.add.new.self c.self.invariant (ap (λ (k : KeptRequests). k.config) (c.in_ok-add.ensures.added b.0 b.1))
