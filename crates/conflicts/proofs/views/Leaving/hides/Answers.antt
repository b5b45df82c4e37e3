use Rattle.std.proofs.Common.{arith, sym, ◌∙◌}
use Rattle.std.proofs.lemmas.Bool.{ltb-true}
use Rattle.conflicts.proofs.Hiding.{hides_kept}
use Rattle.conflicts.proofs.views.Leaving.hides.Goals as goal
use Rattle.conflicts.proofs.views.Leaving.hides.Goals.{then-view-self, else-view-self}

pub returns-then-self-number : goal.returns-then-self-number
returns-then-self-number c v b kept same_view same_number =
    elim c.if-view-self.branch [
      | then-view-self w ↦
          hides_kept c.args.self.now v b c.args.view c.args.number c.shows.result kept same_view same_number
          w.if-view-self.true (sym w.value-is ∙ c.if-self-number.true) c.shows.ensures
      | else-view-self w ↦
          let lower = ltb-true c.args.view.0 c.args.self.now.view.0 (sym w.value-is ∙ c.if-self-number.true) in
          absurd (omega (arith, lower, w.if-view-self.false))
    ]
