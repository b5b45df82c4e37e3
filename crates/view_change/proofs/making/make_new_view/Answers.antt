use Rattle.std.proofs.Common.{sym, ap, subst, ◌∙◌}
use Rattle.seal.specs.Lists.{messages_of}
use Rattle.pbft_codec.specs.declared.body.Body.TheVariants as bodies
use Rattle.quorum_log.specs.Words.{NewView}
use Rattle.view_change.proofs.EqualParts.{same_new_view}
use Rattle.view_change.proofs.Reported.{messages_under}
use Rattle.view_change.specs.Sealable.{IsSealable}
use Rattle.view_change.proofs.Sealing.{new_view_made_is_sealable}
use Rattle.view_change.proofs.making.make_new_view.Goals as goal

pub returns-clause-made : goal.returns-clause-made
returns-clause-made c = λ n is.
    ap (λ (m : NewView). bodies.NewView m)
    (same_new_view c.args.view c.in_ok-changes.changes c.in_ok-pre_prepares.pre_prepares n (sym is.view_is)
    (c.in_ok-changes.ensures n.changes (ap messages_of c.as_slice.ensures.value ∙ messages_under c.args.changes.now.config c.args.changes.now.messages ∙ is.changes_are))
    (c.in_ok-pre_prepares.ensures n.pre_prepares (ap messages_of c.as_slice-2.ensures.value ∙ messages_under c.args.pre_prepares.now.config c.args.pre_prepares.now.messages ∙ is.proposals)))

pub returns-clause-sealable : goal.returns-clause-sealable
returns-clause-sealable c = λ n is few same.
    subst (IsSealable c.args.changes.now.config) (sym (returns-clause-made c n is))
    (new_view_made_is_sealable c.args.view c.args.changes.now c.args.pre_prepares.now n c.as_slice.ensures.checked c.as_slice-2.ensures.checked same is few)
