use Rattle.std.proofs.Common.{rules, ◌==◌, ◌||◌, ◌&&◌, nat_lt}
use Rattle.std.proofs.lemmas.Map.Made.{filter_same_pairs}
use Rattle.quorum_log.proofs.Dropping.{found_kept}
use Rattle.quorum_log.proofs.view_slots.drop_below.Goals as goal

pub returns : goal.returns
returns c = λ v.
    found_kept c.args.view.0 c.args.keeps_own v c.args.slots.now c.retain.new.self
    (filter_same_pairs _ (λ e. nat_lt c.args.view.0 e.0 || ((e.0 == c.args.view.0) && c.args.keeps_own)) _ (λ k s b w f' t. search rules) _ _ c.retain.ensures.filtered)
