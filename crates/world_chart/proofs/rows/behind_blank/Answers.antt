use Rattle.std.proofs.Common.{◌∙◌, ◌++◌, List, ℕ, take, ap, sym}
use Rattle.std.proofs.lemmas.List.{take-append-drop}
use Rattle.world_chart.proofs.Drawing.{if_ok}
use Rattle.world_chart.proofs.rows.behind_blank.Goals as goal

pub returns-in-Some : goal.returns-in-Some
returns-in-Some c =
    let m = c.in-Some.ensures.cases in
    let line = c.as_str.result.now in
    if_ok c.from_str.result _ _
    (λ text is. (
      take m.1 line,
      sym c.as_str.ensures.value ∙ sym (take-append-drop m.1 line) ∙ ap (λ (bs : List ℕ). take m.1 line ++ bs) (sym m.4 ∙ sym is),
    ))
    c.from_str.ensures.ok
