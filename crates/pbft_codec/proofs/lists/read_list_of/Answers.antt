use Rattle.std.proofs.lemmas.Result.{err_from_is_err_and}
use Rattle.pbft_codec.specs.Reading.{many_at}
use Rattle.pbft_codec.proofs.Loops.{continues, ends, is_done}
use Rattle.pbft_codec.proofs.lists.read_list_of.Goals as goal

pub returns-in_err-value : goal.returns-in_err-value
returns-in_err-value g c =
    let p = err_from_is_err_and c.from_residual-in_err-value.result c.from_residual-in_err-value.ensures.1 in
    let reading = g.T.Codec.reading in
    rw (p.1, p.2) (ends c.in_err-value.field-0.0 (λ _. reading) (λ _. 0) c.loop.values.items c.args.count c.loop.counter 0 c.loop.rest.now (many_at (λ _. reading) (λ _. 0) c.args.count 0 c.args.bytes.now) c.loop-test.true c.in_err-value.ensures c.loop.invariant)

pub loop-preserved : goal.loop-preserved
loop-preserved g c =
    let reading = g.T.Codec.reading in
    rw c.in_ok-push.ensures.items (continues (λ _. reading) (λ _. 0) c.loop.values.items c.args.count c.loop.counter 0 c.loop.rest.now c.in_ok-value.value c.in_ok-value.after.now (many_at (λ _. reading) (λ _. 0) c.args.count 0 c.args.bytes.now) c.loop-test.true c.in_ok-value.ensures c.loop.invariant)

pub returns : goal.returns
returns g c =
    let reading = g.T.Codec.reading in
    is_done (λ _. reading) (λ _. 0) c.loop.values.items c.args.count c.loop.counter 0 c.loop.rest.now (many_at (λ _. reading) (λ _. 0) c.args.count 0 c.args.bytes.now) c.loop-test.false c.loop.invariant
