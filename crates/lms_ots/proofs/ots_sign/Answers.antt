use Rattle.std.proofs.Common.{◌≡◌, ℕ, ◌+◌, ◌*◌, ◌≤◌, ◌<◌, List, [], ◌++◌, get_or, length, replicate, slice_index, slice_index_or, take, refl, sym, ◌∙◌, ap, arith}
use Rattle.std.proofs.lemmas.List.{append-nil, take_all}
use Rattle.lms_ots.specs.Ots.{chain, chain_start, digit, digits_of, concatenation, message_hash, randomizer, u32str}
use Rattle.lms_ots.specs.Words.{bytes_of}
use Rattle.lms_ots.proofs.Blocks.{length-bytes_of}
use Rattle.lms_ots.proofs.Chains.{length-tagged_hash, length-u32str}
use Rattle.lms_ots.proofs.DigitLemmas.{get_or-digits_of}
use Rattle.lms_ots.proofs.Concatenation.{concatenation-none, joined_push, joined_same}
use Rattle.lms_ots.proofs.EndLemmas.{end_is, in_each}
use Rattle.lms_ots.proofs.Law.{digit-le}
use Rattle.lms_ots.proofs.BufferLemmas.{piece_more}
use Rattle.lms_ots.proofs.ots_sign.Goals as goal

pub chains-init : goal.chains-init
chains-init c =
    let a = c.args in
    let r = c.randomizer-randomizer in
    let word : length c.u32str.result ≡ 4 = ap length c.u32str.ensures ∙ length-u32str 3 in
    let width : length r.result ≡ 32 = ap length r.ensures ∙ length-tagged_hash a.id.now a.leaf _ _ in
    let one : take 4 c.put.new.buffer ≡ u32str 3 =
    piece_more [] c.put.new.buffer [] c.u32str.result 0 4 (omega arith) refl c.put.ensures ∙ c.u32str.ensures in
    let two : take 36 c.put-2.new.buffer ≡ u32str 3 ++ randomizer a.id.now a.leaf a.secret.now =
    piece_more c.put.new.buffer c.put-2.new.buffer (u32str 3) r.result 4 36 (omega arith) one c.put-2.ensures
    ∙ ap (λ t. u32str 3 ++ t) r.ensures in
    record {
      long = omega arith;
      so_far = two ∙ sym (ap (λ t. u32str 3 ++ randomizer a.id.now a.leaf a.secret.now ++ t) (concatenation-none _) ∙ append-nil _);
    }

pub chains-preserved : goal.chains-preserved
chains-preserved c =
    let i = c.chains.i in
    let f : ℕ → List ℕ = λ i. bytes_of (slice_index_or c.ends-values.result i []) in
    let value : c.bytes_of.result ≡ f i = c.bytes_of.ensures in
    let width : length c.bytes_of.result ≡ 32 = ap length value ∙ length-bytes_of _ in
    let more = piece_more c.chains.signature c.put-in-chains.new.buffer _ c.bytes_of.result (36 + 32 * i) (36 + 32 * (i + 1)) (omega arith)
    c.chains.invariant.so_far c.put-in-chains.ensures in
    record {
      long = omega arith;
      so_far = more ∙ (ap (λ t. u32str 3 ++ randomizer c.args.id.now c.args.leaf c.args.secret.now ++ concatenation f i ++ t) value ∙ joined_push _ f i);
    }

pub returns : goal.returns
returns c =
    let a = c.args in
    let r : List ℕ = randomizer a.id.now a.leaf a.secret.now in
    let q : List ℕ = message_hash a.id.now a.leaf r a.message.now in
    let over = c.chains-test.false in
    let within = c.chains.auto.i-end in
    let all : c.chains.i ≡ 67 = omega arith in
    let long : length c.chains.signature ≤ 36 + 32 * c.chains.i = omega arith in
    let hashed : c.message_hash.result ≡ q =
    c.message_hash.ensures ∙ ap (λ r. message_hash a.id.now a.leaf r a.message.now) c.randomizer-randomizer.ensures in
    let digits : c.digits-digits.result ≡ digits_of q = c.digits-digits.ensures ∙ ap digits_of hashed in
    let each_digit : (i : ℕ) → i < 67 → get_or c.digits-digits.result i 0 ≡ digit q i =
    λ i h. ap (λ ds. get_or ds i 0) digits ∙ get_or-digits_of q i h in
    let ends : (i : ℕ) → i < 67 → bytes_of (slice_index_or c.ends-values.result i []) ≡ chain a.id.now a.leaf i 0 (digit q i) (chain_start a.id.now a.leaf a.secret.now i) =
    λ i h. c.ends-values.ensures i h
    ∙ end_is a.id.now a.leaf (replicate 67 0) c.digits-digits.result c.chain_starts.result i 0 (digit q i) (chain_start a.id.now a.leaf a.secret.now i) (in_each 0 i h) (each_digit i h) (c.chain_starts.ensures i h) in
    sym (take_all (36 + 32 * c.chains.i) c.chains.signature long)
    ∙ (c.chains.invariant.so_far
    ∙ (ap (λ n. u32str 3 ++ r ++ concatenation (λ i. bytes_of (slice_index_or c.ends-values.result i [])) n) all
    ∙ ap (λ ys. u32str 3 ++ r ++ ys) (joined_same _ _ 67 ends)))

pub ends-values-requires : goal.ends-values-requires
ends-values-requires c i lt =
    let digits : get_or c.digits-digits.result i 0 ≡ digit c.message_hash.result i =
    ap (λ ds. get_or ds i 0) c.digits-digits.ensures ∙ get_or-digits_of c.message_hash.result i lt in
    omega (arith, in_each 0 i lt, digits, digit-le c.message_hash.result i)
