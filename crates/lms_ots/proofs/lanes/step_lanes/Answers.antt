use Rattle.std.proofs.Common.{◌≡◌, ◌∷◌, ◌++◌, length, ◌∙◌, ap, arith, length-append, slice_index, List, ℕ, sym}
use Rattle.sha_lanes.specs.Lanes.{hash_in}
use Rattle.lms_ots.specs.Ots.{tagged_hash, u16str, u32str}
use Rattle.lms_ots.specs.Words.{bytes_of}
use Rattle.lms_ots.proofs.Blocks.{length-bytes_of, one_block}
use Rattle.lms_ots.proofs.Chains.{length-u16str, length-u32str}
use Rattle.lms_ots.proofs.lanes.step_lanes.Goals as goal

pub returns : goal.returns
unfolding tagged_hash
returns c j lt =
    let v : List ℕ = bytes_of (hash_in c.args.values.now j) in
    let head : List ℕ = c.args.id.now ++ u32str (slice_index c.args.leaves j) in
    let tag : List ℕ = u16str (slice_index c.args.chains j) in
    let rest : List ℕ = slice_index c.args.steps j ∷ v in
    let value : length v ≡ 32 = length-bytes_of _ in
    let id : length c.args.id.now ≡ 16 = c.told-id in
    let leaf : length head ≡ 20 = omega (arith, length-append c.args.id.now (u32str (slice_index c.args.leaves j)), length-u32str (slice_index c.args.leaves j)) in
    let chain : length (head ++ tag) ≡ 22 = omega (arith, length-append head tag, length-u16str (slice_index c.args.chains j)) in
    let all : length (head ++ tag ++ rest) ≡ 55 = omega (arith, length-append (head ++ tag) rest) in
    ap bytes_of (c.hash_block.ensures j lt _ (c.block.ensures j lt)) ∙ sym (one_block (head ++ tag ++ rest) all)
