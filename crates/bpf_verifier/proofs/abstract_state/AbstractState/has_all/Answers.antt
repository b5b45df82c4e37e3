use Rattle.std.proofs.Common.{ℕ}
use Rattle.std.specs.Option.{is_some}
use Rattle.bpf_verifier.specs.Represents.{ranges_of}
use Rattle.bpf_verifier.proofs.Loops.{all_done, all_more}
use Rattle.bpf_verifier.proofs.abstract_state.AbstractState.has_all.Goals as goal

pub returns : goal.returns
returns g c =
    all_done (λ (r : ℕ). is_some (ranges_of c.args.self.now.ranges r)) c.args.registers.now c.loop-register.register-index c.loop-register-test.false c.loop-register.invariant

pub loop-register-preserved : goal.loop-register-preserved
loop-register-preserved g c =
    all_more (λ (r : ℕ). is_some (ranges_of c.args.self.now.ranges r)) c.args.registers.now c.loop-register.register-index 0 c.has.result c.loop-register-test.true c.loop-register.invariant c.has.ensures c.if-not-has.false
