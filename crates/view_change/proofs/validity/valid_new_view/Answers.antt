use Rattle.std.proofs.Common.{sym, ◌∙◌}
use Rattle.view_change.proofs.Openings.{entry_answer}
use Rattle.view_change.proofs.validity.valid_new_view.Goals as goal

pub returns : goal.returns
returns c = λ n is.
    c.check_new_view.ensures
    ∙ entry_answer c.args.cfg.now c.args.message.now c.in-NewView.entry n c.f.ensures.legal c.requires.under c.signer.ensures.checked is (sym c.body.ensures.value ∙ c.in-NewView.is)
