use Rattle.std.proofs.Common.{◌≡◌, ℕ, ◌+◌, ◌*◌, ◌≤◌, ◌<◌, List, [], ◌++◌, length, slice_index_or, take, refl, sym, ◌∙◌, ap, arith, length-append}
use Rattle.std.proofs.lemmas.List.{append-nil}
use Rattle.sha2.specs.Sha256.{padded_message, padding}
use Rattle.lms_ots.specs.Ots.{concatenation, u16str, u32str}
use Rattle.lms_ots.specs.Words.{bytes_of}
use Rattle.lms_ots.proofs.Blocks.{length-bytes_of}
use Rattle.lms_ots.proofs.Chains.{length-u16str, length-u32str}
use Rattle.lms_ots.proofs.Concatenation.{concatenation-none, joined_push, joined_same, length-concatenation}
use Rattle.lms_ots.proofs.BufferLemmas.{piece_last, piece_more}
use Rattle.lms_ots.proofs.eight.padded_ends.Goals as goal

pub chains-init : goal.chains-init
chains-init c =
    let a = c.args in
    let number : length c.u32str.result ≡ 4 = ap length c.u32str.ensures ∙ length-u32str a.leaf in
    let tag : length c.u16str.result ≡ 2 = ap length c.u16str.ensures ∙ length-u16str 0x8080 in
    let one : take 16 c.put.new.buffer ≡ a.id.now = piece_more [] c.put.new.buffer [] a.id.now 0 16 (omega arith) refl c.put.ensures in
    let two : take 20 c.put-2.new.buffer ≡ a.id.now ++ c.u32str.result =
    piece_more c.put.new.buffer c.put-2.new.buffer a.id.now c.u32str.result 16 20 (omega arith) one c.put-2.ensures in
    let three : take 22 c.put-3.new.buffer ≡ a.id.now ++ c.u32str.result ++ c.u16str.result =
    piece_more c.put-2.new.buffer c.put-3.new.buffer _ c.u16str.result 20 22 (omega arith) two c.put-3.ensures in
    let head : a.id.now ++ c.u32str.result ++ c.u16str.result ≡ a.id.now ++ u32str a.leaf ++ u16str 0x8080 = cc (c.u32str.ensures, c.u16str.ensures) in
    record {
      long = omega arith;
      so_far = three ∙ (head ∙ sym (ap (λ t. a.id.now ++ u32str a.leaf ++ u16str 0x8080 ++ t) (concatenation-none _) ∙ append-nil _));
    }

pub chains-preserved : goal.chains-preserved
chains-preserved c =
    let a = c.args in
    let i = c.chains.i in
    let f : ℕ → List ℕ = λ k. bytes_of (slice_index_or (slice_index_or a.ends.now k []) a.l []) in
    let value : c.bytes_of.result ≡ f i = c.bytes_of.ensures in
    let width : length c.bytes_of.result ≡ 32 = ap length value ∙ length-bytes_of _ in
    let more = piece_more c.chains.buffer c.put-in-chains.new.buffer _ c.bytes_of.result (22 + 32 * i) (22 + 32 * (i + 1)) (omega arith)
    c.chains.invariant.so_far c.put-in-chains.ensures in
    record {
      long = omega arith;
      so_far = more ∙ (ap (λ t. a.id.now ++ u32str a.leaf ++ u16str 0x8080 ++ concatenation f i ++ t) value ∙ joined_push _ f i);
    }

pub returns : goal.returns
returns c end ends =
    let a = c.args in
    let over = c.chains-test.false in
    let within = c.chains.auto.i-end in
    let all : c.chains.i ≡ 67 = omega arith in
    let f : ℕ → List ℕ = λ k. bytes_of (slice_index_or (slice_index_or a.ends.now k []) a.l []) in
    let head : List ℕ = a.id.now ++ u32str a.leaf ++ u16str 0x8080 in
    let m : List ℕ = head ++ concatenation f 67 in
    let prefix : length (a.id.now ++ u32str a.leaf) ≡ 20 = omega (arith, length-append a.id.now (u32str a.leaf), length-u32str a.leaf) in
    let heads : length head ≡ 22 = omega (arith, length-append (a.id.now ++ u32str a.leaf) (u16str 0x8080), length-u16str 0x8080) in
    let long : length m ≡ 2166 =
    omega (arith, length-append head (concatenation f 67), length-concatenation f 32 67 (λ i. length-bytes_of _)) in
    let filled : take 2166 c.chains.buffer ≡ m =
    ap (λ n. take (22 + 32 * n) c.chains.buffer) (sym all) ∙ (c.chains.invariant.so_far ∙ ap (λ n. head ++ concatenation f n) all) in
    piece_last c.chains.buffer c.put-4.new.buffer m _ 2166 (omega arith) filled c.put-4.ensures
    ∙ (ap (λ n. m ++ padding n) (sym long) ∙ ap (λ t. padded_message (head ++ t)) (joined_same f end 67 ends))
