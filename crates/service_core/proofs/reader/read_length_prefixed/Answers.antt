use Rattle.std.proofs.Common.{◌∙◌, ◌<◌, ◌^◌, ◌++◌, length, ap, arith, append_assoc}
use Rattle.std.proofs.lemmas.List.{length-append}
use Rattle.service_model.specs.Words.{u32_bytes}
use Rattle.service_model.proofs.PrefixFree.{free_four}
use Rattle.service_core.proofs.Encoded.{determined}
use Rattle.service_core.proofs.reader.read_length_prefixed.Goals as goal

pub returns-then-rest-length : goal.returns-then-rest-length
returns-then-rest-length c = λ begins.
    let here = c.in_ok-length.ensures in
    let below : c.args.limit < 2 ^ 32 = omega (arith, c.ranges.limit.fits) in
    let x = begins.0 in
    let more = begins.1 in
    let same = determined u32_bytes (λ n. n < 2 ^ 32) free_four c.in_ok-length.length c.in_ok-length.rest.now c.args.bytes.now (omega (arith, here.0, below)) here.1 (length x) (x ++ more) (omega (arith, begins.2, below)) (begins.3 ∙ append_assoc (u32_bytes (length x)) x more) in
    omega (arith, same.0, ap length same.1, length-append x more, c.if-rest-length.true)
