use Rattle.std.proofs.Common.{bit_and}
use Rattle.bpf_verifier.proofs.Bits.{AreMerged}
use Rattle.bpf_verifier.proofs.frame_bytes.FrameBytes.intersect.Given as goal

abbrev pub invariant-loop-word : goal.invariant-loop-word
invariant-loop-word l = AreMerged bit_and l.word l.self.words l.fn.self.words l.other.words
