use Rattle.std.proofs.Common.{◌≡◌, ◌<◌, refl, arith, rules, length}
use Rattle.bpf_verifier.proofs.Bits.{inserted}
use Rattle.bpf_verifier.proofs.frame_bytes.FrameBytes.insert_bits.Goals as goal

pub returns : goal.returns
returns c =
    let many : length c.args.self.now.words ≡ 64 = search rules in
    let inside : c.args.word < length c.args.self.now.words = omega (arith, c.requires, many) in
    inserted c.args.self.now.words c.args.word c.args.mask _ inside refl
