use Rattle.std.proofs.Common.{◌∙◌, ◌++◌, ap, sym, arith, ℕ, ◌<◌, ◌^◌, List}
use Rattle.std.specs.Int.{w64, from_be_bytes}
use Rattle.service_model.specs.Words.{u64_bytes}
use Rattle.service_model.proofs.Bounds.{eight_short}
use Rattle.service_core.proofs.Encoded.{too_few, eight_read}
use Rattle.service_core.proofs.reader.read_u64.Goals as goal

pub returns-then-bytes-lt8 : goal.returns-then-bytes-lt8
returns-then-bytes-lt8 c = too_few 8 u64_bytes (λ n. n < 2 ^ 64) (λ n. omega (arith, eight_short n)) c.args.bytes.now c.if-bytes-lt8.true

pub returns : goal.returns
returns c =
    let n = c.from_be_bytes-number.result in
    let is = eight_read c.args.bytes.now n (λ i. omega (arith, c.type_inv.bytes i)) c.if-bytes-lt8.false (c.from_be_bytes-number.ensures ∙ ap (from_be_bytes w64) c.split_at.ensures.front) in
    (c.from_be_bytes-number.type_inv, is ∙ ap (λ (r : List ℕ). u64_bytes n ++ r) (sym c.split_at.ensures.back))
