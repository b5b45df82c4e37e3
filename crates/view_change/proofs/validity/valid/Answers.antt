use Rattle.std.proofs.Common.{sym, ◌∙◌}
use Rattle.view_change.proofs.Openings.{change_answer}
use Rattle.view_change.proofs.validity.valid.Goals as goal

pub returns : goal.returns
returns c = λ v is.
    c.check_change.ensures
    ∙ change_answer c.args.cfg.now c.args.message.now c.in-ViewChange.change v c.f.ensures.legal c.requires.under c.signer.ensures.checked is (sym c.body.ensures.value ∙ c.in-ViewChange.is)
