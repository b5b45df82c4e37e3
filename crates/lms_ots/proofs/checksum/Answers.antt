use Rattle.std.proofs.Common.{◌≡◌, ◌+◌, ◌-◌, ◌*◌, map, sum, sym, ◌∙◌, ap, arith}
use Rattle.std.specs.List.{range_with_len}
use Rattle.lms_ots.specs.Ots.{checksum, coef}
use Rattle.lms_ots.proofs.DigitLemmas.{sum-map-range_more}
use Rattle.lms_ots.proofs.checksum.Goals as goal

pub summing-preserved : goal.summing-preserved
summing-preserved c =
    let q = c.args.q.now in
    let i = c.summing.i in
    let here : c.from-sum.result ≡ 15 - coef q i = c.from-sum.ensures ∙ ap (λ k. 15 - k) c.coefficient.ensures.value in
    record {
      so_far = ap (λ k. k + c.from-sum.result) c.summing.invariant.so_far
          ∙ (ap (λ k. sum (map (λ i. 15 - coef q i) (range_with_len 0 i)) + k) here ∙ sym (sum-map-range_more (λ i. 15 - coef q i) i));
      small = omega arith;
    }

pub returns : goal.returns
unfolding checksum
returns c =
    let over = c.summing-test.false in
    let all : c.summing.i ≡ 64 = omega arith in
    ap (λ k. k * 16) (c.summing.invariant.so_far
    ∙ ap (λ n. sum (map (λ i. 15 - coef c.args.q.now i) (range_with_len 0 n))) all)
