use Rattle.std.proofs.Common.{◌<◌, ◌^◌, arith}
use Rattle.service_model.specs.Words.{u32_bytes}
use Rattle.service_model.proofs.PrefixFree.{free_four}
use Rattle.service_core.proofs.Encoded.{determined}
use Rattle.service_core.proofs.reader.read_count.Goals as goal

pub returns-then-count-limit : goal.returns-then-count-limit
returns-then-count-limit c = λ begins.
    let here = c.in_ok-count.ensures in
    let below : c.args.limit < 2 ^ 32 = omega (arith, c.ranges.limit.fits) in
    let same = determined u32_bytes (λ n. n < 2 ^ 32) free_four c.in_ok-count.count c.in_ok-count.rest.now c.args.bytes.now here.0 here.1 begins.0 begins.1 (omega (arith, begins.2, below)) begins.3 in
    omega (arith, same.0, begins.2, c.if-count-limit.true)
