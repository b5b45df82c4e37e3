use Rattle.std.proofs.Common.{sym, ap, ◌∙◌}
use Rattle.std.specs.Option.{option_copied, option_map}
use Rattle.checkpoints.proofs.Views.{none_at}
use Rattle.checkpoints.proofs.by_number.quorum_at.Goals as goal

pub returns-in_err-votes-clause-digest : goal.returns-in_err-votes-clause-digest
returns-in_err-votes-clause-digest c =
    ap (λ o. option_map (λ p. p.1) o) c.from_residual.ensures
    ∙ sym (none_at c.args.config.now c.args.ballots.now c.args.number.0 (sym c.get.ensures.value ∙ ap option_copied c.in_err-votes.was))
