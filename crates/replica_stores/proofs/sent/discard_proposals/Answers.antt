use Rattle.std.proofs.Common.{rules}
use Rattle.std.specs.Prelude.{nat_lt}
use Rattle.std.proofs.lemmas.Fn.{filter_same}
use Rattle.replica_stores.proofs.sent.discard_proposals.Goals as goal

pub returns : goal.returns
returns c = filter_same _ (λ p. nat_lt c.args.number.0 p.number.0) _ (λ p b f' k. search rules) _ _ c.retain.ensures.filtered
