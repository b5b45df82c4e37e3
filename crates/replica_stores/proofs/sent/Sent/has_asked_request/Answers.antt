use Rattle.std.proofs.Common.{◌∙◌, sym, ap, List}
use Rattle.std.specs.Prelude.{ℕ, bytes_eq}
use Rattle.std.specs.List.{list_any}
use Rattle.host_types.specs.declared.Digest.{Digest}
use Rattle.replica_stores.specs.Stores.{KeptSent}
use Rattle.replica_stores.proofs.Lists.{any_mapped}
use Rattle.replica_stores.proofs.sent.Sent.has_asked_request.Goals as goal

pub returns : goal.returns
returns c =
    c.is_asked.ensures ∙ ap (list_any (λ (d : Digest). bytes_eq d.0 c.args.digest.now.0)) c.deref.ensures.value
    ∙ sym (any_mapped (λ (d : List ℕ). bytes_eq d c.args.digest.now.0) (λ (d : Digest). d.0) c.self.inside.asked_requests.items)
    ∙ ap (λ (k : KeptSent). list_any (λ d. bytes_eq d c.args.digest.now.0) k.asked_requests) c.self.view_is
