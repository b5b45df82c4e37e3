use Rattle.std.proofs.Common.{◌≡◌, ◌∙◌, sym, ap, map, max, fold, List, arith}
use Rattle.std.specs.Prelude.{ℕ}
use Rattle.replica_stores.specs.declared.sent.Proposal.{Proposal}
use Rattle.replica_stores.specs.Sent.{fields_of}
use Rattle.replica_stores.specs.Stores.{KeptSent}
use Rattle.pbft_model.specs.Certificates.{Fields}
use Rattle.pbft_model.specs.Validity.{greatest_of}
use Rattle.replica_stores.proofs.Lists.{map_mapped, greatest_folded}
use Rattle.replica_stores.proofs.sent.Sent.greatest.Goals as goal

from_none : (n : ℕ) → max 0 n ≡ n
from_none n = omega arith

pub returns : goal.returns
returns c =
    let proposals = c.self.inside.proposed.items in
    c.greatest_number.ensures ∙ ap (λ (ps : List Proposal). fold (λ m (p : Proposal). max m p.number.0) 0 ps) c.deref.ensures.value
    ∙ greatest_folded (λ (p : Proposal). p.number.0) proposals 0 ∙ from_none (greatest_of (map (λ (p : Proposal). p.number.0) proposals))
    ∙ sym (ap greatest_of (map_mapped (λ (x : Fields). x.number) fields_of proposals))
    ∙ ap (λ (k : KeptSent). greatest_of (map (λ (x : Fields). x.number) k.proposed)) c.self.view_is
