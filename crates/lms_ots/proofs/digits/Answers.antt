use Rattle.std.proofs.Common.{◌≡◌, ◌-◌, length-set, ◌∙◌, ap, arith}
use Rattle.lms_ots.specs.Ots.{checksum, coef, digit, u16str}
use Rattle.lms_ots.proofs.DigitLemmas.{digit_of_checksum, digit_of_hash, digits_from_each, fill_index}
use Rattle.lms_ots.proofs.digits.Goals as goal

pub of_hash-preserved : goal.of_hash-preserved
of_hash-preserved c =
    let q = c.args.q.now in
    let i = c.of_hash.i in
    record {
      long = length-set _ i _ ∙ c.of_hash.invariant.long;
      so_far = fill_index (digit q) c.of_hash.digits i c.coefficient.result
          (c.coefficient.ensures.value ∙ digit_of_hash q i (omega arith) (omega arith)) (omega arith) c.of_hash.invariant.so_far;
    }

pub of_checksum-preserved : goal.of_checksum-preserved
of_checksum-preserved c =
    let q = c.args.q.now in
    let i = c.of_checksum.i in
    let above = c.of_checksum.auto.i in
    let tail : c.u16str-tail.result ≡ u16str (checksum q) = c.u16str-tail.ensures ∙ ap u16str c.checksum.ensures in
    record {
      long = length-set _ i _ ∙ c.of_checksum.invariant.long;
      so_far = fill_index (digit q) c.of_checksum.digits i c.coefficient-in-of_checksum.result
          (c.coefficient-in-of_checksum.ensures.value ∙ (ap (λ t. coef t (i - 64)) tail ∙ digit_of_checksum q i (omega arith) (omega arith)))
          (omega arith) c.of_checksum.invariant.so_far;
    }

pub returns : goal.returns
returns c =
    let over = c.of_checksum-test.false in
    let within = c.of_checksum.auto.i-end in
    digits_from_each c.args.q.now c.of_checksum.digits c.of_checksum.i (omega arith) c.of_checksum.invariant.long c.of_checksum.invariant.so_far
