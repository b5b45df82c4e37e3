use Rattle.std.proofs.Common.{◌∙◌, sym, ap}
use Rattle.std.specs.Prelude.{bytes_eq}
use Rattle.std.specs.List.{list_any}
use Rattle.replica_stores.specs.declared.sent.Proposal.{Proposal}
use Rattle.replica_stores.specs.Sent.{fields_of}
use Rattle.replica_stores.specs.Stores.{KeptSent}
use Rattle.pbft_model.specs.Certificates.{Fields}
use Rattle.replica_stores.proofs.Lists.{any_mapped}
use Rattle.replica_stores.proofs.sent.Sent.has_proposed.Goals as goal

pub returns : goal.returns
returns c =
    c.is_named.ensures ∙ ap (list_any (λ (p : Proposal). bytes_eq p.digest.0 c.args.digest.now.0)) c.deref.ensures.value
    ∙ sym (any_mapped (λ (x : Fields). bytes_eq x.digest c.args.digest.now.0) fields_of c.self.inside.proposed.items)
    ∙ ap (λ (k : KeptSent). list_any (λ x. bytes_eq x.digest c.args.digest.now.0) k.proposed) c.self.view_is
