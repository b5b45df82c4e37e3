use Rattle.std.proofs.Common.{◌∙◌, sym, ap}
use Rattle.std.specs.Prelude.{ℕ, ◌==◌}
use Rattle.std.specs.List.{list_any}
use Rattle.host_types.specs.declared.SeqNo.{SeqNo}
use Rattle.replica_stores.specs.Stores.{KeptSent}
use Rattle.replica_stores.proofs.Lists.{any_mapped}
use Rattle.replica_stores.proofs.sent.Sent.has_committed.Goals as goal

pub returns : goal.returns
returns c =
    c.is_among.ensures ∙ ap (list_any (λ (n : SeqNo). n.0 == c.args.number.0)) c.deref.ensures.value
    ∙ sym (any_mapped (λ (n : ℕ). n == c.args.number.0) (λ (n : SeqNo). n.0) c.self.inside.committed.items)
    ∙ ap (λ (k : KeptSent). list_any (λ n. n == c.args.number.0) k.committed) c.self.view_is
