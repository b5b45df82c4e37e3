use Rattle.bpf_verifier.proofs.Bits.{AreCleared}
use Rattle.bpf_verifier.proofs.frame_bytes.FrameBytes.remove_frame.Given as goal

abbrev pub invariant-loop-word : goal.invariant-loop-word
invariant-loop-word l = AreCleared l.first l.word l.self.words l.fn.self.words
