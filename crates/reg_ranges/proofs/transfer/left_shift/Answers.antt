use Rattle.std.proofs.Common.{arith}
use Rattle.reg_ranges.proofs.Sound.{shifted, count_small, modulus_small}
use Rattle.reg_ranges.proofs.transfer.left_shift.Goals as goal

pub overflow_cast-lo-then-hi-modulus : goal.overflow_cast-lo-then-hi-modulus
overflow_cast-lo-then-hi-modulus c =
    let ordered = c.args.a.ordered in
    let limit = modulus_small c.args.width in
    let s = shifted c.from-then-hi-modulus.result c.from.result _ c.modulus.result (omega arith) (omega arith) (count_small c.args.width c.args.b.lo c.bits.result c.bits.ensures) c.if-hi-modulus.true (omega arith) in
    omega (arith, s.1)

pub new-requires : goal.new-requires
new-requires c =
    let ordered = c.args.a.ordered in
    let limit = modulus_small c.args.width in
    (shifted c.from-then-hi-modulus.result c.from.result _ c.modulus.result (omega arith) (omega arith) (count_small c.args.width c.args.b.lo c.bits.result c.bits.ensures) c.if-hi-modulus.true (omega arith)).0
