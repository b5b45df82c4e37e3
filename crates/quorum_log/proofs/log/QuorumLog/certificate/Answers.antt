use Rattle.std.proofs.Common.{ap, sym, subst, ◌∙◌}
use Rattle.seal.specs.declared.vote.VoteKind.TheVariants as kinds
use Rattle.ballots.specs.Ballots.{AreListed, AreUnder}
use Rattle.quorum_log.specs.Slots.{certificate_here}
use Rattle.quorum_log.proofs.Certificates.{certificate_is}
use Rattle.quorum_log.proofs.Asking.{votes_listed, votes_under}
use Rattle.quorum_log.proofs.log.QuorumLog.certificate.Goals as goal

pub certificate-requires-clause-listed : goal.certificate-requires-clause-listed
certificate-requires-clause-listed c =
    subst (λ k. AreListed k c.in-Some.slot.now.prepares) (sym (ap (λ k. k.config) c.self.view_is))
    (votes_listed c.args.self.now.config c.args.view.0 c.args.number.0 kinds.Prepare c.in-Some.slot.now.prepares c.in-Some.ensures.represents.is.prepares)

pub certificate-requires-clause-under : goal.certificate-requires-clause-under
certificate-requires-clause-under c =
    subst (λ k. AreUnder k c.in-Some.slot.now.prepares) (sym (ap (λ k. k.config) c.self.view_is))
    (votes_under c.args.self.now.config c.args.view.0 c.args.number.0 kinds.Prepare c.in-Some.slot.now.prepares c.in-Some.ensures.represents.is.prepares)

pub returns-in_ok-certificate-in-Some-clause-certificate : goal.returns-in_ok-certificate-in-Some-clause-certificate
returns-in_ok-certificate-in-Some-clause-certificate c =
    c.in_ok-certificate-in-Some.ensures ∙ ap (λ k. certificate_here k c.args.view.0 c.in-Some.slot.now) (ap (λ k. k.config) c.self.view_is)
    ∙ certificate_is c.args.self.now.config c.args.self.now.log c.args.view.0 c.args.number.0 c.in-Some.slot.now c.slot.ensures.legal c.in-Some.ensures.represents
