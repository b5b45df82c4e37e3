use Rattle.std.proofs.Common.{rules}
use Rattle.std.specs.Prelude.{nat_le}
use Rattle.std.proofs.lemmas.Map.Made.{filter_same_pairs}
use Rattle.checkpoints.proofs.Keys.{after_filter}
use Rattle.checkpoints.proofs.by_number.drop_below.Goals as goal

pub returns : goal.returns
returns g c =
    let e = filter_same_pairs _ (λ p. nat_le c.args.number.0 p.0) _ (λ k v b w f' t. search rules) _ _ c.retain.ensures.filtered in
    λ n. after_filter c.args.map.now c.retain.new.self c.args.number.0 n e
