use Rattle.std.proofs.Common.{◌≡◌, ◌++◌, inr, refl, rules}
use Rattle.std.specs.Prelude.{codes, decimal}
use Rattle.std.specs.String.{string_bytes}
use Rattle.world_chart.specs.declared.rows.Shape.TheVariants as shapes
use Rattle.world_chart.proofs.Drawing.{on_ok}
use Rattle.world_chart.proofs.rows.Rows.add_view.Goals as goal

pub returns-clause-rows : goal.returns-clause-rows
returns-clause-rows c =
    let said : string_bytes c.in_ok-words.words ≡ codes "view " ++ decimal c.args.view.0 = search rules in
    on_ok c.push.result _ _ (λ is. inr (record { shape = shapes.View c.args.view; words = c.in_ok-words.words }, is, (refl, said))) c.push.ensures.rows
