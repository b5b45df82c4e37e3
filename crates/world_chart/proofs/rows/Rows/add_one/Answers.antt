use Rattle.std.proofs.Common.{◌∙◌, List, [], ◌∷◌, ◌++◌, ap}
use Rattle.world_chart.specs.declared.rows.Row.{Row}
use Rattle.world_chart.proofs.Drawing.{on_ok}
use Rattle.world_chart.proofs.rows.Rows.add_one.Goals as goal

pub returns-clause-rows : goal.returns-clause-rows
returns-clause-rows c =
    let row : Row = record { shape = c.shape_of-shape.result; words = c.in_ok-words.words } in
    on_ok c.push.result _ _ (λ is. (row, is ∙ ap (λ (rs : List Row). rs ++ row ∷ []) c.in_ok-words.ensures.rows, c.shape_of-shape.ensures, c.in_ok-words.ensures.words)) c.push.ensures.rows
