use Rattle.std.proofs.Common.{◌≡◌, ◌∙◌, arith, refl, rules}
use Rattle.std.proofs.lemmas.List.{length-set}
use Rattle.bpf_verifier.proofs.RegisterRanges.{ordered_set, ranges_joined}
use Rattle.bpf_verifier.proofs.registers.RegisterRanges.join.Goals as goal

pub loop-register-preserved : goal.loop-register-preserved
loop-register-preserved c =
    let l = c.loop-register in
    let i = l.invariant in
    record {
      lows = search rules;
      highs = search rules;
      ordered = ordered_set l.lo l.hi l.register c.join-joined.result.lo c.join-joined.result.hi i.ordered (omega (arith, i.low, c.loop-register-test.true)) (omega (arith, i.high, c.loop-register-test.true)) c.join-joined.result.ordered;
      low = length-set l.lo l.register c.join-joined.result.lo ∙ i.low;
      high = length-set l.hi l.register c.join-joined.result.hi ∙ i.high;
    }

pub returns : goal.returns
returns c =
    let i = c.loop-register.invariant in
    let end : c.loop-register.register ≡ 11 = omega (arith, c.loop-register-test.false, c.loop-register.auto.register-end) in
    let old = c.args.self.now in
    let other = c.args.other.now in
    ranges_joined c.loop-register.register end c.loop-register.lo c.loop-register.hi _ old.lo old.hi old.known other.lo other.hi other.known i.lows i.highs refl
