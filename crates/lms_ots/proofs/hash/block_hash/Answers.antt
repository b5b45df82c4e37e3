use Rattle.std.proofs.Common.{◌≡◌, ◌∷◌, [], ◌++◌, length, refl, ◌∙◌, ap, arith}
use Rattle.std.proofs.lemmas.List.{append_assoc}
use Rattle.sha2.specs.Sha256.{sha256}
use Rattle.lms_ots.specs.Ots.{tagged_hash, u16str, u32str}
use Rattle.lms_ots.proofs.Chains.{length-u16str, length-u32str}
use Rattle.lms_ots.proofs.BufferLemmas.{piece_last, piece_more}
use Rattle.lms_ots.proofs.hash.block_hash.Goals as goal

-- each `put` is behind the ones before it, and the last one ends the input
pub returns : goal.returns
unfolding tagged_hash
returns c =
    let number_width : length c.u32str.result ≡ 4 = ap length c.u32str.ensures ∙ length-u32str c.args.number in
    let tag_width : length c.u16str.result ≡ 2 = ap length c.u16str.ensures ∙ length-u16str c.args.tag in
    let one = piece_more [] c.put.new.buffer [] c.args.id.now 0 16 (omega arith) refl c.put.ensures in
    let two = piece_more c.put.new.buffer c.put-2.new.buffer c.args.id.now c.u32str.result 16 20 (omega arith) one c.put-2.ensures in
    let three = piece_more c.put-2.new.buffer c.put-3.new.buffer _ c.u16str.result 20 22 (omega arith) two c.put-3.ensures in
    let four = piece_more c.put-3.new.buffer c.put-4.new.buffer _ (c.args.step ∷ []) 22 23 refl three c.put-4.ensures in
    let all = piece_last c.put-4.new.buffer c.put-5.new.buffer _ c.args.value.now 23 (omega arith) four c.put-5.ensures in
    let concatenation : c.args.id.now ++ c.u32str.result ++ c.u16str.result ≡ c.args.id.now ++ u32str c.args.number ++ u16str c.args.tag =
    cc (c.u32str.ensures, c.u16str.ensures) in
    c.digest.ensures
    ∙ ap sha256 (all ∙ (append_assoc _ (c.args.step ∷ []) c.args.value.now ∙ ap (λ p. p ++ (c.args.step ∷ c.args.value.now)) concatenation))
