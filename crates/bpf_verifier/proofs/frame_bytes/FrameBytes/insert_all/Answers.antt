use Rattle.std.proofs.Common.{◌∙◌, ◌||◌, ◌&&◌, ◌/◌, ◌%◌, ap, eqb, leb, ltb, Bool, arith}
use Rattle.std.specs.Int.{bit_at}
use Rattle.bpf_verifier.specs.FrameBytes.{has_byte}
use Rattle.bpf_verifier.proofs.Bits.{more_words}
use Rattle.bpf_verifier.proofs.frame_bytes.FrameBytes.insert_all.Goals as goal

pub loop-word-preserved : goal.loop-word-preserved
loop-word-preserved c = λ i.
    c.insert_bits.ensures i
    ∙ ap (λ (b : Bool). (eqb (i / 64) c.loop-word.word && eqb (bit_at c.mask.result (i % 64)) 1) || b) (c.loop-word.invariant i)
    ∙ more_words c.loop-word.word i (λ k. leb c.args.from k && ltb k c.args.to) (eqb (bit_at c.mask.result (i % 64)) 1) (has_byte c.args.self.now.words i) (c.mask.ensures (i % 64) (omega arith))
