use Rattle.std.proofs.Common.{◌≡◌, max}
use Rattle.bpf_verifier.proofs.Bits.{AreCopied}
use Rattle.bpf_verifier.proofs.frame_bytes.FrameBytes.copy_from.Given as goal

abbrev pub invariant-loop-word : goal.invariant-loop-word
invariant-loop-word l = record {
  copied : AreCopied l.word l.self.words l.fn.self.words l.other.words;
  used : l.self.used ≡ max l.fn.self.used l.other.used;
}
