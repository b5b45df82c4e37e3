use Rattle.std.proofs.Common.{◌≡◌, ap, sym, ◌∙◌, arith}
use Rattle.replica_core.specs.Replicas.{KeptReplica}
use Rattle.replica_core.proofs.Arrivals.{asker_small}
use Rattle.replica_core.proofs.kept.Core.due_supply.Goals as goal

pub overflow_cast-asker : goal.overflow_cast-asker
overflow_cast-asker c =
    let small = asker_small _ c.args.message.now c.in-Fetch.wanted c.self.invariant.legal (c.requires.under ∙ ap (λ (k : KeptReplica). k.config) (sym c.self.view_is)) c.signer.ensures.checked (sym c.body.ensures.value ∙ c.in-Fetch.is) in
    let same : c.signer.result.1 ≡ c.args.message.now.message.id = ap (λ r. r.1) c.signer.ensures.value in
    omega (arith, small, same)
