use Rattle.std.proofs.Common.{rules, arith, ◌≡◌, ◌<◌, length}
use borrow.Author.Tests.{tests}
use Rattle.bpf_asm.proofs.Numerals.{numeral_end}
use Rattle.code_commands.proofs.decimal.numeral.Goals as goal

pub returns : goal.returns
returns c =
    let some : 0 < length c.args.digits.now = search (rules, tests) in
    let end : c.loop-digit.digit-index ≡ length c.args.digits.now = omega arith in
    numeral_end c.args.radix c.args.digits.now c.loop-digit.digit-index c.loop-digit.value end c.loop-digit.invariant.value_is c.loop-digit.invariant.digits_go_on some c.loop-digit.invariant.small
