use Rattle.std.proofs.Common.{ap, ◌∙◌}
use Rattle.std.specs.Option.{unwrap_or}
use Rattle.quorum_log.specs.Slots.{empty_slot}
use Rattle.quorum_log.proofs.Windows.{at_index}
use Rattle.quorum_log.proofs.window.Window.slot.Goals as goal

pub returns : goal.returns
returns c = ap (λ o. unwrap_or o empty_slot) c.slot.ensures ∙ at_index c.args.self.now.numbers.items c.args.index c.args.view.0 _ _ c.requires c.index.ensures
