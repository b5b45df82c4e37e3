use Rattle.std.proofs.Common.{◌∙◌, ◌++◌, ap, sym, arith, ℕ, ◌<◌, ◌^◌, List}
use Rattle.std.specs.Int.{w32, from_be_bytes}
use Rattle.service_model.specs.Words.{u32_bytes}
use Rattle.service_model.proofs.Bounds.{four_short}
use Rattle.service_core.proofs.Encoded.{too_few, four_read}
use Rattle.service_core.proofs.reader.read_u32.Goals as goal

pub returns-then-bytes-lt4 : goal.returns-then-bytes-lt4
returns-then-bytes-lt4 c = too_few 4 u32_bytes (λ n. n < 2 ^ 32) (λ n. omega (arith, four_short n)) c.args.bytes.now c.if-bytes-lt4.true

pub returns : goal.returns
returns c =
    let n = c.from_be_bytes-number.result in
    let is = four_read c.args.bytes.now n (λ i. omega (arith, c.type_inv.bytes i)) c.if-bytes-lt4.false (c.from_be_bytes-number.ensures ∙ ap (from_be_bytes w32) c.split_at.ensures.front) in
    (c.from_be_bytes-number.type_inv, is ∙ ap (λ (r : List ℕ). u32_bytes n ++ r) (sym c.split_at.ensures.back))
