use Rattle.std.proofs.Common.{◌≡◌, ℕ, cond, ltb, None}
use Rattle.bpf_verifier.specs.Represents.{ranges_of}
use Rattle.bpf_verifier.proofs.RegisterRanges.{listed}
use Rattle.bpf_verifier.proofs.registers.RegisterRanges.from_array.Given as goal

abbrev pub invariant-loop-register : goal.invariant-loop-register
invariant-loop-register l = (r : ℕ) → ranges_of l.registers r ≡ cond (ltb r l.register) (listed l.ranges r) None
