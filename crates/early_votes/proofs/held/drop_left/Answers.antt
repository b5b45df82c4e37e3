use Rattle.std.proofs.Common.{rules}
use Rattle.std.proofs.lemmas.Fn.{filter_same}
use Rattle.early_votes.specs.Holding.{is_awaited, is_vote}
use Rattle.early_votes.proofs.held.drop_left.Goals as goal

pub returns : goal.returns
returns c = filter_same _ (is_vote (is_awaited c.args.low.0 c.args.view.0)) _ (λ h b f' k. search rules) _ _ c.retain.ensures.filtered
