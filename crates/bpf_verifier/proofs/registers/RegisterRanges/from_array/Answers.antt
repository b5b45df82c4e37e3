use Rattle.std.proofs.Common.{◌≡◌, refl, rules, arith, length}
use Rattle.bpf_verifier.proofs.RegisterRanges.{listed_more, listed_all}
use Rattle.bpf_verifier.proofs.registers.RegisterRanges.from_array.Goals as goal

pub loop-register-preserved : goal.loop-register-preserved
loop-register-preserved c = λ r.
    let long : length c.args.ranges ≡ 11 = search rules in
    listed_more c.args.ranges c.loop-register.register r _ _ _ _ (omega (arith, long, c.loop-register-test.true)) refl (c.loop-register.invariant r) (c.set.ensures r)

pub returns : goal.returns
returns c = λ r.
    let long : length c.args.ranges ≡ 11 = search rules in
    listed_all c.args.ranges c.loop-register.register r _ (omega (arith, long, c.loop-register-test.false, c.loop-register.auto.register-end)) (c.loop-register.invariant r)
