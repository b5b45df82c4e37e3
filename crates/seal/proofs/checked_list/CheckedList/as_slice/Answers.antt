use Rattle.std.proofs.Common.{ap, subst, ◌∙◌}
use Rattle.std.specs.Prelude.{map}
use Rattle.seal.specs.Lists.{AreChecked, under}
use Rattle.seal.proofs.Listing.{restored, all_checked}
use Rattle.seal.proofs.checked_list.CheckedList.as_slice.Goals as goal

pub returns-clause-value : goal.returns-clause-value
returns-clause-value c =
    c.deref.ensures.value ∙ restored c.self.inside.config.value c.self.inside.messages.items c.self.invariant
    ∙ ap (λ l. map (under l.config) l.messages) c.self.view_is

pub returns-clause-checked : goal.returns-clause-checked
returns-clause-checked c = subst AreChecked c.self.view_is (all_checked c.self.inside.config.value c.self.inside.messages.items c.self.invariant)
