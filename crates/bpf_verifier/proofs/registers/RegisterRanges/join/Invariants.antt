use Rattle.std.proofs.Common.{◌≡◌, length, min, max}
use Rattle.bpf_verifier.specs.Registers.{AreOrdered}
use Rattle.bpf_verifier.proofs.Bits.{AreMerged}
use Rattle.bpf_verifier.proofs.registers.RegisterRanges.join.Given as goal

abbrev pub invariant-loop-register : goal.invariant-loop-register
invariant-loop-register l = record {
  lows : AreMerged min l.register l.lo l.self.lo l.other.lo;
  highs : AreMerged max l.register l.hi l.self.hi l.other.hi;
  ordered : AreOrdered l.lo l.hi;
  low : length l.lo ≡ 11;
  high : length l.hi ≡ 11;
}
