use Rattle.std.proofs.Common.{ap, ◌∙◌}
use Rattle.seal.specs.Lists.{messages_of}
use Rattle.view_change.proofs.EqualParts.{found_certificate}
use Rattle.view_change.proofs.Reported.{messages_under}
use Rattle.view_change.proofs.making.certificate_of.Goals as goal

pub returns-in_default-clause-copy : goal.returns-in_default-clause-copy
returns-in_default-clause-copy c = λ x is.
    let found = c.in_ok-pre_prepare.ensures x.pre_prepare (c.message.ensures.value ∙ is.pre_prepare) in
    let none = c.in_default.is in
    absurd (cc (found, none))

pub returns-clause-copy : goal.returns-clause-copy
returns-clause-copy c = λ x is.
    found_certificate c.in_ok-pre_prepare.field-0 c.in-Some.pre_prepare c.in_ok-prepares.prepares x c.in-Some.is (c.in_ok-pre_prepare.ensures x.pre_prepare (c.message.ensures.value ∙ is.pre_prepare))
    (c.in_ok-prepares.ensures x.prepares (ap messages_of c.as_slice.ensures.value ∙ messages_under c.args.certificate.now.prepares.config c.args.certificate.now.prepares.messages ∙ is.prepares))
