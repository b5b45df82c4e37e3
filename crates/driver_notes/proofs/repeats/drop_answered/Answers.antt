use Rattle.std.proofs.Common.{rules, not}
use Rattle.std.proofs.lemmas.Fn.{filter_same}
use Rattle.driver_notes.specs.Repeating.{asks_for}
use Rattle.driver_notes.proofs.repeats.drop_answered.Goals as goal

pub returns : goal.returns
returns c = filter_same _ (λ m. not (asks_for c.args.digest.now.0 m)) _ (λ h b f' k. search rules) _ _ c.retain.ensures.filtered
