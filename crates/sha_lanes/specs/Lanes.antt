-- Layer: eight blocks of SHA-256 side by side. A word is a vector, with one lane for each block.
use Rattle.std.specs.Prelude.{◌≡◌, ℕ, ◌*◌, ◌<◌, List, [], ◌∷◌, map, slice_index, slice_index_or}
use Rattle.sha2.specs.Sha256.{word_at}

-- the words in lane j
abbrev pub words_in : List (List ℕ) → ℕ → List ℕ
words_in words j = map (λ word. slice_index word j) words

-- word k in lane j
abbrev pub word_in : List (List ℕ) → ℕ → ℕ → ℕ
word_in words j k = slice_index (slice_index_or words k []) j

-- the hash value in lane j, of eight words (FIPS 180-4, 5.3.3)
abbrev pub hash_in : List (List ℕ) → ℕ → List ℕ
hash_in hash j =
    word_in hash j 0 ∷ word_in hash j 1 ∷ word_in hash j 2 ∷ word_in hash j 3
    ∷ word_in hash j 4 ∷ word_in hash j 5 ∷ word_in hash j 6 ∷ word_in hash j 7 ∷ []

-- Lane j holds the sixteen words of this block of 64 bytes (5.2.1).
abbrev pub HoldsBlock : List (List ℕ) → ℕ → List ℕ → Type 0
HoldsBlock words j block = (k : ℕ) → k < 16 → word_in words j k ≡ word_at block (4 * k)
