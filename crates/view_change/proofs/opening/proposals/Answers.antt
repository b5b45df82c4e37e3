use Rattle.std.proofs.Common.{ap, ◌∙◌, ◌+◌}
use Rattle.quorum_log.specs.Words.{Certificate}
use Rattle.std.specs.Prelude.{List}
use Rattle.quorum_log.specs.Validity.{digest_or_null, highest}
use Rattle.quorum_log.specs.Setup.{setup_of}
use Rattle.view_change.proofs.Giving.{proposed}
use Rattle.view_change.proofs.Reported.{certificates_reported}
use Rattle.view_change.proofs.opening.proposals.Goals as goal

pub loop-below-preserved : goal.loop-below-preserved
loop-below-preserved c = λ config ms e.
    proposed (setup_of config) c.args.view.0 c.loop-below.below c.args.top ms c.digest_at.result.0 c.loop-below.entries.items c.push.new.self.items _ c.loop-below-test.true
    (c.digest_at.ensures config ∙ ap (λ (xs : List Certificate). digest_or_null (setup_of config) (highest (c.loop-below.below + 1) xs)) (certificates_reported c.args.changes.now ms e))
    c.in_ok-push.ensures.items (c.loop-below.invariant config ms e)
