use Rattle.std.proofs.Common.{◌≡◌, ℕ, ◌+◌, ◌*◌, ◌<◌, List, [], ◌∷◌, ◌++◌, length, slice_index, slice_index_or, ◌∙◌, ap, arith, length-append, sym}
use Rattle.sha2.specs.Sha256.{hash_after, initial_hash_256, padded_message}
use Rattle.sha_lanes.proofs.LaneLemmas.{below_eight}
use Rattle.lms_ots.specs.Ots.{chain, chain_start, concatenation, public_value, tagged_hash, u16str, u32str}
use Rattle.lms_ots.specs.Words.{bytes_of}
use Rattle.lms_ots.proofs.Blocks.{hash_of_ends_padded}
use Rattle.lms_ots.proofs.Chains.{length-chain, length-tagged_hash, length-u16str, length-u32str}
use Rattle.lms_ots.proofs.Concatenation.{length-concatenation}
use Rattle.lms_ots.proofs.eight.ots_publics.Goals as goal

-- the hash of a leaf's padded ends is its public value
value : (id secret : List ℕ) (leaf : ℕ) → length id ≡ 16
    → bytes_of (hash_after initial_hash_256 (padded_message (id ++ u32str leaf ++ u16str 0x8080 ++ concatenation (λ i. chain id leaf i 0 15 (chain_start id leaf secret i)) 67)) 34)
    ≡ public_value id leaf secret
unfolding tagged_hash
value id secret leaf long =
    let f : ℕ → List ℕ = λ i. chain id leaf i 0 15 (chain_start id leaf secret i) in
    let prefix : length (id ++ u32str leaf) ≡ 20 = omega (arith, length-append id (u32str leaf), length-u32str leaf) in
    let head : length (id ++ u32str leaf ++ u16str 0x8080) ≡ 22 =
    omega (arith, length-append (id ++ u32str leaf) (u16str 0x8080), length-u16str 0x8080) in
    let ends : length (concatenation f 67) ≡ 32 * 67 =
    length-concatenation f 32 67 (λ i. length-chain id leaf i 0 15 _ (length-tagged_hash id leaf i _)) in
    hash_of_ends_padded _ (omega (arith, length-append (id ++ u32str leaf ++ u16str 0x8080) (concatenation f 67)))

pub returns : goal.returns
returns c =
    let a = c.args in
    let id = a.id.now in
    let secret = a.secret.now in
    let messages : List (List ℕ) =
    c.padded_ends.result ∷ c.padded_ends-2.result ∷ c.padded_ends-3.result ∷ c.padded_ends-4.result
    ∷ c.padded_ends-5.result ∷ c.padded_ends-6.result ∷ c.padded_ends-7.result ∷ c.padded_ends-8.result ∷ [] in
    let end : (l i : ℕ) → l < 8 → i < 67 → bytes_of (slice_index_or (slice_index_or c.all_ends-ends.result i []) l [])
    ≡ chain id (a.first + l) i 0 15 (chain_start id (a.first + l) secret i) =
    λ l i ll li.
    c.all_ends-ends.ensures i l li ll
    ∙ (ap (λ q. chain id q i 0 15 (chain_start id q (bytes_of c.words_of.result) i)) (c.leaves_from.ensures l ll)
    ∙ ap (λ s. chain id (a.first + l) i 0 15 (chain_start id (a.first + l) s i)) c.words_of.ensures) in
    let each : (l : ℕ) → l < 8 → slice_index_or messages l []
    ≡ padded_message (id ++ u32str (a.first + l) ++ u16str 0x8080 ++ concatenation (λ i. chain id (a.first + l) i 0 15 (chain_start id (a.first + l) secret i)) 67)
    → slice_index_or c.hash_eight.result l [] ≡ public_value id (a.first + l) secret =
    λ l lt is.
    c.hash_eight.ensures l lt ∙ (ap (λ (m : List ℕ). bytes_of (hash_after initial_hash_256 m 34)) is ∙ value id secret (a.first + l) c.told-id) in
    let zero : a.first + 0 ≡ a.first = omega arith in
    let first : padded_message (id ++ u32str a.first ++ u16str 0x8080 ++ concatenation (λ i. chain id (a.first + 0) i 0 15 (chain_start id (a.first + 0) secret i)) 67)
    ≡ padded_message (id ++ u32str (a.first + 0) ++ u16str 0x8080 ++ concatenation (λ i. chain id (a.first + 0) i 0 15 (chain_start id (a.first + 0) secret i)) 67) =
    ap (λ q. padded_message (id ++ u32str q ++ u16str 0x8080 ++ concatenation (λ i. chain id (a.first + 0) i 0 15 (chain_start id (a.first + 0) secret i)) 67)) (sym zero) in
    below_eight _
    (each 0 (omega arith) (c.padded_ends.ensures _ (λ i lt. end 0 i (omega arith) lt) ∙ first))
    (each 1 (omega arith) (c.padded_ends-2.ensures _ (λ i lt. end 1 i (omega arith) lt)))
    (each 2 (omega arith) (c.padded_ends-3.ensures _ (λ i lt. end 2 i (omega arith) lt)))
    (each 3 (omega arith) (c.padded_ends-4.ensures _ (λ i lt. end 3 i (omega arith) lt)))
    (each 4 (omega arith) (c.padded_ends-5.ensures _ (λ i lt. end 4 i (omega arith) lt)))
    (each 5 (omega arith) (c.padded_ends-6.ensures _ (λ i lt. end 5 i (omega arith) lt)))
    (each 6 (omega arith) (c.padded_ends-7.ensures _ (λ i lt. end 6 i (omega arith) lt)))
    (each 7 (omega arith) (c.padded_ends-8.ensures _ (λ i lt. end 7 i (omega arith) lt)))
