use Rattle.std.proofs.Common.{◌∙◌, ap}
use Rattle.std.specs.Int.{from_bool}
use Rattle.ballots.proofs.Counts.{backups_are}
use Rattle.ballots.proofs.votes.Votes.has_backups.Goals as goal

pub returns : goal.returns
returns c =
    backups_are c.args.config.now c.args.self.now c.args.digest.now.0 c.args.view.0 c.from.result c.count.result c.primary.result.0 c.from-2.result c.vote_for.result c.f.ensures.legal c.requires
    (c.from.ensures ∙ c.f.ensures.value) c.count.ensures c.primary.ensures c.vote_for.ensures (c.from-2.ensures ∙ ap from_bool c.is_some-of_primary.ensures)
