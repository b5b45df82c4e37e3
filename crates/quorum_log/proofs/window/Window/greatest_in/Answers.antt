use Rattle.std.proofs.Common.{◌<◌, ◌-◌, length, arith, ◌∙◌}
use Rattle.quorum_log.proofs.Naming.{no_number_beyond, number_there, no_number_from}
use Rattle.quorum_log.proofs.window.Window.greatest_in.Goals as goal

pub loop-index-init : goal.loop-index-init
loop-index-init c = λ i le. no_number_beyond c.args.view.0 c.args.self.now.numbers.items i (omega (arith, le, c.len-index.ensures))

pub returns-in-Some : goal.returns-in-Some
returns-in-Some c =
    let numbers = c.args.self.now.numbers.items in
    let below : c.loop-index.index - 1 < length numbers = omega (arith, c.loop-index.auto.index, c.loop-index-test.true, c.len-index.ensures) in
    record {
      index = c.loop-index.index - 1;
      here = number_there c.args.view.0 numbers (c.loop-index.index - 1) c.index.result.now c.index.result.now c.number.result below c.index.ensures c.number.ensures ∙ c.in-Some.is;
      later = λ i lt. c.loop-index.invariant i (omega (arith, lt));
    }

pub loop-index-preserved : goal.loop-index-preserved
loop-index-preserved c =
    let numbers = c.args.self.now.numbers.items in
    let below : c.loop-index.index - 1 < length numbers = omega (arith, c.loop-index.auto.index, c.loop-index-test.true, c.len-index.ensures) in
    no_number_from c.args.view.0 numbers (c.loop-index.index - 1) (λ i le. c.loop-index.invariant i (omega (arith, le)))
    (number_there c.args.view.0 numbers (c.loop-index.index - 1) c.index.result.now c.index.result.now c.number.result below c.index.ensures c.number.ensures ∙ c.in_default.is)
