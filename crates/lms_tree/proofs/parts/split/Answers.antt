use Rattle.std.proofs.Common.{sym, ◌∙◌}
use Rattle.lms_tree.proofs.PartLemmas.{whole-parts}
use Rattle.lms_tree.proofs.parts.split.Goals as goal

pub returns : goal.returns
returns c =
    whole-parts c.in_ok-parts.parts _ _ c.in-Some.bottom c.in_ok-parts.ensures (sym c.in-Some.ensures)
    (c.if-last_signature-signature_len.false ∙ c.signature_len.ensures)
