use Rattle.std.proofs.Common.{◌≡◌, [], ◌++◌, ◌∙◌, ap, arith, slice_index_or}
use Rattle.sha2.specs.Sha256.{sha256}
use Rattle.lms_ots.specs.Ots.{concatenation, tagged_hash, u16str, u32str}
use Rattle.lms_ots.specs.Words.{bytes_of}
use Rattle.lms_ots.proofs.Concatenation.{joined_same}
use Rattle.lms_ots.proofs.Hashing.{Holds-more, Holds-none}
use Rattle.lms_ots.proofs.hash_of_ends.Goals as goal

pub chains-init : goal.chains-init
chains-init c = Holds-none _ _ _ c.hasher-hasher.ensures

pub chains-preserved : goal.chains-preserved
chains-preserved c = Holds-more _ _ _ c.chains.i c.bytes_of.result c.bytes_of.ensures (c.update.ensures _ c.chains.invariant)

pub returns : goal.returns
unfolding tagged_hash
returns c end ends =
    let a = c.args in
    let over = c.chains-test.false in
    let within = c.chains.auto.i-end in
    let all : c.chains.i ≡ 67 = omega arith in
    c.finalize.ensures _ c.chains.invariant
    ∙ (ap (λ n. sha256 (a.id.now ++ u32str a.leaf ++ u16str 0x8080 ++ concatenation (λ i. bytes_of (slice_index_or a.ends.now i [])) n)) all
    ∙ ap (λ ys. sha256 (a.id.now ++ u32str a.leaf ++ u16str 0x8080 ++ ys)) (joined_same _ _ 67 ends))
