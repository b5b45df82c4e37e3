use Rattle.bpf_verifier.proofs.Bits.{bits_present, bits_absent}
use Rattle.bpf_verifier.proofs.frame_bytes.FrameBytes.has_bits.Goals as goal

pub returns : goal.returns
returns c = record {
  present = λ all k small one. bits_present c.args.self.now.words c.args.word c.args.mask all k small one;
  absent = λ some. bits_absent c.args.self.now.words c.args.word c.args.mask c.ranges.mask.fits some;
}
