use Rattle.std.proofs.Common.{rules}
use Rattle.std.proofs.lemmas.Fn.{filter_same}
use Rattle.driver_notes.specs.Repeating.{is_wanted_in}
use Rattle.driver_notes.proofs.repeats.drop_past.Goals as goal

pub returns : goal.returns
returns c = filter_same _ (is_wanted_in c.args.low.0 c.args.executed.0 c.args.view.0) _ (λ h b f' k. search rules) _ _ c.retain.ensures.filtered
