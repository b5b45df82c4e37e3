use Rattle.std.proofs.Common.{ap, sym, ◌∙◌, ◌&&◌}
use Rattle.ballots.specs.Certificates.{has_quorum}
use Rattle.ballots.specs.Ballots.{voted_for}
use Rattle.quorum_log.specs.Slots.{is_certified_for, is_committed_for}
use Rattle.quorum_log.proofs.slot.Slot.is_committed.Goals as goal

pub returns-then-is_certified : goal.returns-then-is_certified
returns-then-is_certified c =
    let named = sym c.digest.ensures ∙ c.in-Some.is in
    let certified = sym (ap (is_certified_for c.args.config.now c.args.view.0 c.args.self.now) named) ∙ sym c.is_certified.ensures ∙ c.if-is_certified.true in
    c.has_quorum.ensures
    ∙ sym (ap (λ b. b && has_quorum c.args.config.now (voted_for c.in-Some.digest.0 c.args.self.now.commits)) certified)
    ∙ sym (ap (is_committed_for c.args.config.now c.args.view.0 c.args.self.now) named)
