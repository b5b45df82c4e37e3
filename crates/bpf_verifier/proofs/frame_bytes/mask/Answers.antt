use Rattle.bpf_verifier.proofs.Bits.{mask_bits}
use Rattle.bpf_verifier.proofs.frame_bytes.mask.Goals as goal

pub returns : goal.returns
returns c = λ k inside.
    mask_bits c.args.word c.args.from c.args.to c.saturating_sub-low.result c.min-high.result k c.saturating_sub-low.ensures c.min-high.ensures c.requires.behind c.requires.before inside
