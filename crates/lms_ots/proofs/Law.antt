-- A signature leads to its leaf's public value.
use Rattle.std.proofs.Common.{◌≡◌, ℕ, ◌+◌, ◌-◌, ◌*◌, ◌<◌, ◌≤◌, List, ◌++◌, length, take, drop, sym, ◌∙◌, ap, arith, length-append}
use Rattle.std.proofs.lemmas.List.{append_assoc, drop-drop, drop_at, take_at}
use Rattle.lms_ots.specs.Ots.{candidate_of, chain, chain_start, digit, hash_of_ends, concatenation, message_hash, public_value, randomizer, randomizer_in, signature_of, tagged_hash, u32str, value_in}
use Rattle.lms_ots.proofs.Chains.{chain-chain, length-chain, length-tagged_hash, length-u32str}
use Rattle.lms_ots.proofs.Concatenation.{joined_same, piece-concatenation}

pub digit-le : (q : List ℕ) (i : ℕ) → digit q i ≤ 15
digit-le q i = omega arith

-- the randomizer is behind the typecode
pub part_randomizer : (t c j : List ℕ) → length t ≡ 4 → length c ≡ 32 → randomizer_in (t ++ c ++ j) ≡ c
part_randomizer t c j et ec =
    ap (λ s. take 32 (drop 4 s)) (append_assoc t c j)
    ∙ (ap (λ s. take 32 s) (drop_at t (c ++ j) 4 et) ∙ take_at c j 32 ec)

-- value i is behind the typecode, the randomizer and i values
pub part_value : (t c : List ℕ) (f : ℕ → List ℕ) (n i : ℕ) → length t ≡ 4 → length c ≡ 32
    → ((k : ℕ) → length (f k) ≡ 32) → i < n → value_in (t ++ c ++ concatenation f n) i ≡ f i
part_value t c f n i et ec each h =
    let head : length (t ++ c) ≡ 36 = omega (arith, length-append t c) in
    ap (λ s. take 32 s) (sym (drop-drop (32 * i) 36 (t ++ c ++ concatenation f n)) ∙ ap (λ s. drop (32 * i) s) (drop_at (t ++ c) (concatenation f n) 36 head))
    ∙ piece-concatenation f 32 n i each h

-- a chain run to a digit, and on to its end
pub chain_on : (id : List ℕ) (leaf i d : ℕ) (start : List ℕ) → d ≤ 15
    → chain id leaf i d (15 - d) (chain id leaf i 0 d start) ≡ chain id leaf i 0 15 start
chain_on id leaf i d start h =
    let from : d ≡ 0 + d = omega arith in
    let all : d + (15 - d) ≡ 15 = omega arith in
    ap (λ k. chain id leaf i k (15 - d) (chain id leaf i 0 d start)) from
    ∙ (chain-chain id leaf i 0 d (15 - d) start ∙ ap (λ k. chain id leaf i 0 k start) all)

pub candidate-signature : (id secret message : List ℕ) (leaf : ℕ)
    → candidate_of id leaf message (signature_of id leaf secret message) ≡ public_value id leaf secret
candidate-signature id secret message leaf =
    let c : List ℕ = randomizer id leaf secret in
    let q : List ℕ = message_hash id leaf c message in
    let f : ℕ → List ℕ = λ i. chain id leaf i 0 (digit q i) (chain_start id leaf secret i) in
    let s : List ℕ = u32str 3 ++ c ++ concatenation f 67 in
    let word : length (u32str 3) ≡ 4 = length-u32str 3 in
    let width : length c ≡ 32 = length-tagged_hash id leaf _ _ in
    let widths : (i : ℕ) → length (f i) ≡ 32 = λ i. length-chain id leaf i 0 (digit q i) _ (length-tagged_hash id leaf i _) in
    let same_c : randomizer_in s ≡ c = part_randomizer (u32str 3) c (concatenation f 67) word width in
    let same_q : message_hash id leaf (randomizer_in s) message ≡ q = ap (λ r. message_hash id leaf r message) same_c in
    let ends : (i : ℕ) → i < 67 → chain id leaf i (digit q i) (15 - digit q i) (value_in s i) ≡ chain id leaf i 0 15 (chain_start id leaf secret i) =
    λ i h. ap (λ v. chain id leaf i (digit q i) (15 - digit q i) v) (part_value (u32str 3) c f 67 i word width widths h)
    ∙ chain_on id leaf i (digit q i) (chain_start id leaf secret i) (digit-le q i) in
    ap (λ r. hash_of_ends id leaf (λ i. chain id leaf i (digit r i) (15 - digit r i) (value_in s i))) same_q
    ∙ ap (λ ys. tagged_hash id leaf 0x8080 ys) (joined_same _ _ 67 ends)
