use Rattle.std.proofs.Common.{sym, ap, subst, ◌∙◌}
use Rattle.seal.specs.Lists.{messages_of}
use Rattle.pbft_codec.specs.declared.body.Body.TheVariants as bodies
use Rattle.quorum_log.specs.Words.{ViewChange}
use Rattle.view_change.proofs.EqualParts.{same_change}
use Rattle.view_change.proofs.Reported.{messages_under}
use Rattle.view_change.specs.Sealable.{IsSealable}
use Rattle.view_change.proofs.Sealing.{made_is_sealable}
use Rattle.view_change.proofs.ValidParts.{made_valid}
use Rattle.view_change.specs.Made.{IsValidChange}
use Rattle.quorum_log.specs.Setup.{setup_of}
use Rattle.view_change.proofs.making.make.Goals as goal

pub returns-clause-made : goal.returns-clause-made
returns-clause-made c = λ v is.
    ap (λ (w : ViewChange). bodies.ViewChange w)
    (same_change c.args.view c.args.low c.in_ok-checkpoints.checkpoints c.in_ok-certificates.certificates v (sym is.view_is) (sym is.low_is)
    (c.in_ok-checkpoints.ensures v.checkpoints (ap messages_of c.as_slice.ensures.value ∙ messages_under c.args.proof.now.config c.args.proof.now.messages ∙ is.checkpoints))
    (c.in_ok-certificates.ensures.copies v.certificates is.carries))

pub returns-clause-sealable : goal.returns-clause-sealable
returns-clause-sealable c = λ v is short under_c.
    subst (IsSealable c.args.proof.now.config) (sym (returns-clause-made c v is))
    (made_is_sealable c.args.view c.args.low c.args.proof.now c.args.certificates.now v c.as_slice.ensures.checked (c.in_ok-certificates.ensures {u = tt}).checked is short under_c)

pub returns-clause-from_valid_parts : goal.returns-clause-from_valid_parts
returns-clause-from_valid_parts c = λ legal parts.
    let w = made_valid c.args.view c.args.low c.args.proof.now c.args.certificates.now c.as_slice.ensures.checked (c.in_ok-certificates.ensures {u = tt}).checked legal parts in
    subst (IsValidChange (setup_of c.args.proof.now.config)) (sym (returns-clause-made c w.change w.made)) w.valid
