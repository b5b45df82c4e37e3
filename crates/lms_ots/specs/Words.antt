-- Internal: a hash as the eight words that it is made of, high byte of each first (FIPS 180-4, 6.2.2), and the chains of a leaf side
-- by side.
use Rattle.std.specs.Prelude.{◌≡◌, ℕ, ◌<◌, Bool, true, false, List, [], ◌∷◌, ◌++◌, slice_index, slice_index_or}
use Rattle.sha2.specs.Sha256.{digest_bytes, padded_message}
use Rattle.lms_ots.specs.Ots.{chain, u16str, u32str}

-- the 32 bytes of eight words
unfoldable pub bytes_of : List ℕ → List ℕ
bytes_of words = digest_bytes words 8

-- the one block that a step of a chain hashes: its 55 bytes and their padding (RFC 8554, 4.3, step 4)
abbrev pub step_block : List ℕ → ℕ → ℕ → ℕ → List ℕ → List ℕ
step_block id leaf i step words = padded_message (id ++ u32str leaf ++ u16str i ++ (step ∷ bytes_of words))

-- the end of chain i of a leaf, from its step in `froms` on, after its count of steps in `counts`, from its words in `starts`
abbrev pub end_of : List ℕ → ℕ → List ℕ → List ℕ → List (List ℕ) → ℕ → List ℕ
end_of id leaf froms counts starts i = chain id leaf i (slice_index froms i) (slice_index counts i) (bytes_of (slice_index_or starts i []))

-- each chain that has ended has its end's words
abbrev pub HoldEnds : (ℕ → List ℕ) → List (List ℕ) → List Bool → Type 0
HoldEnds end ends has_ended = (i : ℕ) → i < 67 → slice_index_or has_ended i false ≡ true → bytes_of (slice_index_or ends i []) ≡ end i
