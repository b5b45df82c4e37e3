use Rattle.std.proofs.Common.{◌≡◌, ◌+◌, ◌-◌, ◌≤◌, arith, drop, List, get_or, length, sym, ap, subst, ◌<◌, ◌∙◌}
use Rattle.std.specs.Prelude.{slice_get}
use Rattle.replica_journal.specs.Facts.{RowFacts}
use Rattle.replica_journal.specs.Output.{Output}
use Rattle.byz_world.proofs.OutputLaws.{in_row, outputs_in, past_row}
use Rattle.byz_world.proofs.member.Member.output.Goals as goal

pub returns-then-left-outputs : goal.returns-then-left-outputs
returns-then-left-outputs c =
    let rows = c.rows-row-items.result.now in
    let same : c.outputs-outputs.result.now ≡ (get_or rows c.loop-row.row-index c.row-item.result).outputs = c.outputs-outputs.ensures ∙ ap (λ (r : RowFacts). r.outputs) c.row-item.is in
    c.item_at.ensures ∙ ap (λ (xs : List Output). slice_get xs c.loop-row.left) same
    ∙ sym (in_row rows c.loop-row.row-index c.row-item.result c.loop-row.left c.loop-row-test.true (subst (λ (xs : List Output). c.loop-row.left < length xs) same c.if-left-outputs.true))
    ∙ c.loop-row.invariant

pub loop-row-preserved : goal.loop-row-preserved
loop-row-preserved c =
    let rows = c.rows-row-items.result.now in
    let same : c.outputs-outputs.result.now ≡ (get_or rows c.loop-row.row-index c.row-item.result).outputs = c.outputs-outputs.ensures ∙ ap (λ (r : RowFacts). r.outputs) c.row-item.is in
    ap (λ (xs : List Output). slice_get (outputs_in (drop (c.loop-row.row-index + 1) rows)) (c.loop-row.left - length xs)) same
    ∙ past_row rows c.loop-row.row-index c.row-item.result c.loop-row.left c.loop-row-test.true
    (subst (λ (xs : List Output). length xs ≤ c.loop-row.left) same (omega arith))
    ∙ c.loop-row.invariant
