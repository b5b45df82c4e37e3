use Rattle.std.proofs.Common.{◌≡◌, ◌∙◌, ap, map}
use Rattle.replica_stores.specs.Sent.{fields_of, proposal_of}
use Rattle.pbft_model.specs.Certificates.{of_pre_prepare}
use Rattle.replica_stores.proofs.Lists.{map_mapped}
use Rattle.replica_stores.proofs.sent.Sent.propose_all.Goals as goal

pub returns-clause-proposed : goal.returns-clause-proposed
returns-clause-proposed c =
    let made : map fields_of c.in_ok-self-inside.field-0.items ≡ map of_pre_prepare c.args.list.now
    = ap (map fields_of) c.in_ok-self-inside.ensures ∙ map_mapped fields_of proposal_of c.args.list.now in
    let was = c.self.view_is in
    λ i. record (was i) { proposed = made i }
