use Rattle.std.proofs.Common.{rules}
use Rattle.std.specs.Prelude.{nat_lt}
use Rattle.std.proofs.lemmas.Fn.{filter_same}
use Rattle.replica_stores.proofs.sent.discard.Goals as goal

pub returns : goal.returns
returns c = filter_same _ (λ n. nat_lt c.args.number.0 n.0) _ (λ n b f' k. search rules) _ _ c.retain.ensures.filtered
