use Rattle.std.proofs.Common.{◌∙◌, inr, subst}
use Rattle.world_chart.specs.Drawing.{Folds}
use Rattle.world_chart.proofs.Drawing.{on_ok, unfolds_same}
use Rattle.world_chart.proofs.rows.Rows.take.Goals as goal

pub returns : goal.returns
returns c =
    let same = subst (Folds c.args.happening.now c.args.self.now.folded c.fold.new.self.folded) c.if-branch.false c.in_ok-fold.ensures.taken in
    on_ok c.add.result _ _
    (λ e. inr (
      c.unfold.new.self.rows.items,
      unfolds_same _ _ _ _ _ same c.in_ok-fold.ensures.rows c.in_ok-unfold.ensures.rows,
      e,
      c.add.ensures.folded ∙ c.in_ok-unfold.ensures.folded,
    ))
    c.add.ensures.rows
