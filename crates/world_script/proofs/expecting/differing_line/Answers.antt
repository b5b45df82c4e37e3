use Rattle.std.proofs.Common.{◌+◌, ◌≤◌, ◌<◌, ℕ, length, drop, get_or, sym, ap, ◌∙◌, arith}
use Rattle.world_script.specs.Expecting.{differing_from}
use Rattle.world_script.proofs.Differing.{both_end, ends_first, goes_on, line_else, line_then, other_byte, same_byte}
use Rattle.world_script.proofs.expecting.differing_line.Goals as goal
use Rattle.world_script.proofs.expecting.differing_line.Goals.{then-expected-index-eq10, else-expected-index-eq10}

pub returns-then-index-printed : goal.returns-then-index-printed
returns-then-index-printed c =
    sym (c.loop-index.invariant.2 ∙ ends_first c.loop-index.line c.loop-index.index c.args.expected.now c.args.printed.now c.loop-index-test.true (omega arith))

pub returns-then-expected-index : goal.returns-then-expected-index
returns-then-expected-index c =
    let low = c.loop-index.invariant.1 in
    let within : c.loop-index.index < length c.args.printed.now = omega arith in
    sym (c.loop-index.invariant.2 ∙ other_byte c.loop-index.line c.loop-index.index c.args.expected.now c.args.printed.now c.loop-index-test.true within c.if-expected-index.true)

pub loop-index-preserved : goal.loop-index-preserved
loop-index-preserved c =
    let es = c.args.expected.now in
    let ps = c.args.printed.now in
    let i = c.loop-index.index in
    let line = c.loop-index.line in
    let few : line ≤ i + 1 = c.loop-index.invariant.0 in
    let low : i ≤ length ps = c.loop-index.invariant.1 in
    let within : i < length ps = omega arith in
    let on = c.loop-index.invariant.2 ∙ same_byte line i es ps c.loop-index-test.true within c.if-expected-index.false in
    elim c.if-expected-index-eq10.branch [
      | then-expected-index-eq10 w ↦ (omega arith, omega arith, on ∙ ap (λ (n : ℕ). differing_from n (drop (i + 1) es) (drop (i + 1) ps)) (line_then line (get_or es i 0) w.if-expected-index-eq10.true ∙ sym w.line-is))
      | else-expected-index-eq10 w ↦ (omega arith, omega arith, on ∙ ap (λ (n : ℕ). differing_from n (drop (i + 1) es) (drop (i + 1) ps)) (line_else line (get_or es i 0) w.if-expected-index-eq10.false ∙ sym w.line-is))
    ]

pub returns-then-expected-printed : goal.returns-then-expected-printed
returns-then-expected-printed c =
    sym (c.loop-index.invariant.2 ∙ goes_on c.loop-index.line c.loop-index.index c.args.expected.now c.args.printed.now (omega arith) (omega arith))

pub returns : goal.returns
returns c =
    let low = c.loop-index.invariant.1 in
    sym (c.loop-index.invariant.2 ∙ both_end c.loop-index.line c.loop-index.index c.args.expected.now c.args.printed.now (omega arith) (omega arith))
