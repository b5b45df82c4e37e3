use Rattle.std.proofs.Common.{◌∙◌}
use Rattle.ballots.proofs.Counts.{quorum_is}
use Rattle.ballots.proofs.votes.Votes.has_quorum.Goals as goal

pub returns : goal.returns
returns c =
    quorum_is c.args.config.now c.args.self.now c.args.digest.now.0 c.from.result c.count.result c.f.ensures.legal c.requires
    (c.from.ensures ∙ c.f.ensures.value) c.count.ensures
