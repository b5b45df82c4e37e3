use Rattle.std.proofs.Common.{◌≡◌, rules, refl, length, arith, bit_and}
use Rattle.bpf_verifier.specs.FrameBytes.{AreZeroFrom}
use Rattle.bpf_verifier.proofs.Bits.{merged_none, merged_more, intersected_all}
use Rattle.bpf_verifier.proofs.frame_bytes.FrameBytes.intersect.Goals as goal

pub loop-word-init : goal.loop-word-init
loop-word-init c = merged_none bit_and _ _

pub loop-word-preserved : goal.loop-word-preserved
loop-word-preserved c =
    let a : length c.loop-word.self.words ≡ 64 = search rules in
    let b : length c.args.other.now.words ≡ 64 = search rules in
    merged_more bit_and c.loop-word.word c.loop-word.self.words c.args.self.now.words c.args.other.now.words _ _ _ c.loop-word.invariant (omega (arith, a, c.loop-word-test.true)) (omega (arith, b, c.loop-word-test.true)) refl

pub returns : goal.returns
returns c = λ i h.
    let end : c.loop-word.word ≡ c.args.self.now.used = omega (arith, c.loop-word-test.false, c.loop-word.auto.word-end) in
    let zero : AreZeroFrom c.loop-word.word c.args.self.now.words = λ n past. c.args.self.now.rest n (omega (arith, past, end)) in
    intersected_all c.loop-word.self.words c.args.self.now.words c.args.other.now.words c.loop-word.word c.loop-word.invariant zero i
