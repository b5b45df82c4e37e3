-- Statement: LM-OTS, the one-time signatures of RFC 8554, section 4, under LMOTS_SHA256_N32_W4 (section 4.1):
-- hashes of 32 bytes, digits of 4 bits, 67 chains of 15 steps. They are functions on lists of bytes.
use Rattle.std.specs.Prelude.{ℕ, zero, suc, ◌+◌, ◌-◌, ◌*◌, ◌/◌, ◌%◌, ◌^◌, List, [], ◌∷◌, ◌++◌, map, sum, take, drop, slice_index}
use Rattle.std.specs.Int.{w16, w32, to_be_bytes}
use Rattle.std.specs.List.{range_with_len}
use Rattle.sha2.specs.Sha256.{sha256}

-- ---- strings of bytes (section 3.1)

-- u32str: a number as 4 bytes, high first (3.1.1)
unfoldable pub u32str : ℕ → List ℕ
u32str n = to_be_bytes w32 n

-- u16str: a number as 2 bytes, high first (3.1.1)
unfoldable pub u16str : ℕ → List ℕ
u16str n = to_be_bytes w16 n

-- coef (S, i, 4): digit i of a string of 4-bit digits, the high one of a byte first (3.1.3)
abbrev pub coef : List ℕ → ℕ → ℕ
coef s i = slice_index s (i / 2) / 2 ^ (4 - 4 * (i % 2)) % 16

-- f 0 || f 1 || .. || f (n - 1)
unfoldable pub concatenation : (ℕ → List ℕ) → ℕ → List ℕ
concatenation f zero = []
concatenation f (suc n) = concatenation f n ++ f n

-- ---- hashes

-- H (I || u32str (q) || u16str (tag) || rest), the form of each hash of the scheme
unfoldable pub tagged_hash : List ℕ → ℕ → ℕ → List ℕ → List ℕ
tagged_hash id number tag rest = sha256 (id ++ u32str number ++ u16str tag ++ rest)

-- x[i]: the start of chain i, from the secret seed (appendix A)
abbrev pub chain_start : List ℕ → ℕ → List ℕ → ℕ → List ℕ
chain_start id leaf secret i = tagged_hash id leaf i (0xff ∷ secret)

-- C: the randomizer of a leaf's signature. The RFC leaves its choice to the signer: here it comes
-- from the seed as a chain's start does, with 0xfffd for the chain's number
abbrev pub randomizer : List ℕ → ℕ → List ℕ → List ℕ
randomizer id leaf secret = tagged_hash id leaf 0xfffd (0xff ∷ secret)

-- step j of chain i (4.3, step 4)
abbrev pub chain_step : List ℕ → ℕ → ℕ → ℕ → List ℕ → List ℕ
chain_step id leaf i j value = tagged_hash id leaf i (j ∷ value)

-- chain i from `value`: the steps from, from + 1, .., as many as `steps` says (4.3, step 4)
unfoldable pub chain : List ℕ → ℕ → ℕ → ℕ → ℕ → List ℕ → List ℕ
chain id leaf i from zero value = value
chain id leaf i from (suc steps) value =
    chain_step id leaf i (from + steps) (chain id leaf i from steps value)

-- H (I || u32str (q) || u16str (D_PBLC) || z[0] || .. || z[66]), over the ends of the chains (4.3, step 5)
abbrev pub hash_of_ends : List ℕ → ℕ → (ℕ → List ℕ) → List ℕ
hash_of_ends id leaf end_of = tagged_hash id leaf 0x8080 (concatenation end_of 67)

-- I || u32str (q) || u16str (D_MESG) || C: what comes before the message in Q (4.5, step 3)
abbrev pub message_prefix : List ℕ → ℕ → List ℕ → List ℕ
message_prefix id leaf c = id ++ u32str leaf ++ u16str 0x8181 ++ c

-- Q: H (I || u32str (q) || u16str (D_MESG) || C || message) (4.5, step 3)
abbrev pub message_hash : List ℕ → ℕ → List ℕ → List ℕ → List ℕ
message_hash id leaf c message = tagged_hash id leaf 0x8181 (c ++ message)

-- ---- digits (section 4.4)

-- Cksm: what the 64 digits of a hash lack to 15 each, shifted left by ls = 4 (4.4)
unfoldable pub checksum : List ℕ → ℕ
checksum q = sum (map (λ i. 15 - coef q i) (range_with_len 0 64)) * 2 ^ 4

-- a[i]: digit i of Q || Cksm (Q) (4.5, step 4)
abbrev pub digit : List ℕ → ℕ → ℕ
digit q i = coef (q ++ u16str (checksum q)) i

-- a[0], .., a[66]
unfoldable pub digits_of : List ℕ → List ℕ
digits_of q = map (digit q) (range_with_len 0 67)

-- ---- keys and signatures

-- K: the public value of a leaf, over each chain's end, 15 steps from its start (4.3)
abbrev pub public_value : List ℕ → ℕ → List ℕ → List ℕ
public_value id leaf secret =
    hash_of_ends id leaf (λ i. chain id leaf i 0 15 (chain_start id leaf secret i))

-- u32str (type) || C || y[0] || .. || y[66], where y[i] is a[i] steps from the start of chain i (4.5)
abbrev pub signature_of : List ℕ → ℕ → List ℕ → List ℕ → List ℕ
signature_of id leaf secret message =
    let c = randomizer id leaf secret in
    let q = message_hash id leaf c message in
    u32str 3 ++ c ++ concatenation (λ i. chain id leaf i 0 (digit q i) (chain_start id leaf secret i)) 67

-- C, as a signature has it (4.6, step 2)
abbrev pub randomizer_in : List ℕ → List ℕ
randomizer_in sig = take 32 (drop 4 sig)

-- y[i], as a signature has it (4.6, step 2)
abbrev pub value_in : List ℕ → ℕ → List ℕ
value_in sig i = take 32 (drop (36 + 32 * i) sig)

-- Kc: the public value that a signature of a message leads to, each chain run on from its digit to
-- its end (4.6, step 3). The signature's typecode is the caller's to check
abbrev pub candidate_of : List ℕ → ℕ → List ℕ → List ℕ → List ℕ
candidate_of id leaf message sig =
    let q = message_hash id leaf (randomizer_in sig) message in
    hash_of_ends id leaf (λ i. chain id leaf i (digit q i) (15 - digit q i) (value_in sig i))
