use Rattle.std.proofs.Common.{◌≡◌, ◌<◌, ◌++◌, inr, refl, rules, arith}
use Rattle.std.specs.Prelude.{codes, decimal}
use Rattle.std.specs.String.{string_bytes}
use Rattle.world_chart.specs.declared.rows.Shape.TheVariants as shapes
use Rattle.world_chart.proofs.Drawing.{on_ok}
use Rattle.world_chart.proofs.rows.Rows.unfold.Goals as goal

pub returns-clause-rows : goal.returns-clause-rows
returns-clause-rows c =
    let some : 0 < c.args.self.now.folded = omega (arith, c.if-many-eq0.false) in
    let said : string_bytes c.in_ok-words.words ≡ decimal c.args.self.now.folded ++ (codes " message" ++ (c.ending_of-ending.result.now ++ c.as_str-more.result.now)) = search rules in
    on_ok c.push.result _ _ (λ is. inr (some, (record { shape = shapes.Fold; words = c.in_ok-words.words }, is, refl, (c.ending_of-ending.result.now ++ c.as_str-more.result.now, said)))) c.push.ensures.rows
