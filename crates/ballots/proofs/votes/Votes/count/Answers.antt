use Rattle.std.proofs.Common.{ap, ◌∙◌}
use Rattle.std.specs.Prelude.{count_ones}
use Rattle.pbft_model.specs.Setup.{count}
use Rattle.ballots.specs.Ballots.{voted_for}
use Rattle.ballots.proofs.Masks.{ones_mask}
use Rattle.ballots.proofs.votes.Votes.count.Goals as goal

pub returns : goal.returns
returns c =
    ap count_ones (c.mask.ensures ∙ c.self.invariant.masks c.args.digest.now.0)
    ∙ ones_mask (voted_for c.args.digest.now.0 c.self.inside.by_signer) 10
    ∙ ap (λ votes. count (voted_for c.args.digest.now.0 votes) 10) c.self.view_is
