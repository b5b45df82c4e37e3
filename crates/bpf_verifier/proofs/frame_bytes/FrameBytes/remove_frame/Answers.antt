use Rattle.std.proofs.Common.{◌≡◌, rules, length, arith}
use Rattle.bpf_verifier.proofs.Bits.{cleared_none, cleared_more, cleared_frame}
use Rattle.bpf_verifier.proofs.frame_bytes.FrameBytes.remove_frame.Goals as goal

pub loop-word-init : goal.loop-word-init
loop-word-init c = cleared_none _ _

pub loop-word-preserved : goal.loop-word-preserved
loop-word-preserved c =
    let a : length c.args.self.now.words ≡ 64 = search rules in
    cleared_more _ c.loop-word.word c.loop-word.self.words c.args.self.now.words c.loop-word.invariant (omega arith) (omega (arith, a, c.requires, c.loop-word-test.true))

pub returns : goal.returns
returns c = λ i h.
    cleared_frame c.args.depth c.loop-word.word c.loop-word.self.words c.args.self.now.words (omega arith) c.loop-word.invariant i
