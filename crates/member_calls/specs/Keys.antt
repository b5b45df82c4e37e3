-- Statement: keys and seeds as bytes.
use Rattle.std.specs.Prelude.{ℕ, ◌==◌, nat_le, if◌then◌else◌, List, [], ◌∷◌, ◌++◌, length, take, drop, Option, Some, None, Result, Ok, Err, bytes_eq}
use Rattle.host_types.specs.declared.key.PublicKey.{PublicKey}
use Rattle.host_types.specs.declared.key.PublicKey.TheVariants.{Lms, Hss}
use Rattle.lms_tree.specs.Keys.{signer_at}
use Rattle.lms_tree.specs.SigningState.{SigningState, total_of}
use Rattle.lms_level.specs.declared.height.Height.{Height}
use Rattle.lms_level.specs.declared.height.Height.TheVariants.{H5, H10}
use Rattle.member_calls.specs.declared.status.Status.{Status}
use Rattle.member_calls.specs.declared.status.Status.TheVariants.{NoSeed, NoHeight, NoLeaf}

-- A public key is that of RFC 8554, section 6.1, of 60 bytes: the number of levels, 1 or 2, and the key of the top tree.
abbrev pub one_level : List ℕ
one_level = 0 ∷ 0 ∷ 0 ∷ 1 ∷ []

abbrev pub two_levels : List ℕ
two_levels = 0 ∷ 0 ∷ 0 ∷ 2 ∷ []

abbrev pub key_text : PublicKey → List ℕ
key_text (Lms bytes) = one_level ++ bytes
key_text (Hss bytes) = bytes

abbrev pub key_in : List ℕ → Option PublicKey
key_in bytes =
    if length bytes == 60
    then (if bytes_eq (take 4 bytes) one_level then Some (Lms (drop 4 bytes))
    else if bytes_eq (take 4 bytes) two_levels then Some (Hss bytes) else None)
    else None

-- ---- seeds

-- The height of a tree by its number of levels above the leaves.
abbrev pub height_in : ℕ → Option Height
height_in n = if n == 5 then Some H5 else if n == 10 then Some H10 else None

-- A key has bottom trees of this height, or none where it is 0.
abbrev pub bottom_in : ℕ → Option (Option Height)
bottom_in n = if n == 0 then Some None else if n == 5 then Some (Some H5) else if n == 10 then Some (Some H10) else None

abbrev pub signer_with : Option Height → Option (Option Height) → List ℕ → ℕ → Result SigningState Status
signer_with None bottom seed leaf = Err NoHeight
signer_with (Some top) None seed leaf = Err NoHeight
signer_with (Some top) (Some bottom) seed leaf =
    if nat_le leaf (total_of top bottom) then Ok (signer_at top bottom (take 16 seed) (drop 16 seed) leaf) else Err NoLeaf

-- The signer of a seed of 48 bytes, the identifier of the top tree (16) and SEED (32), that has used the leaves below
-- this one (RFC 8554, appendix A).
abbrev pub signer_in : List ℕ → ℕ → ℕ → ℕ → Result SigningState Status
signer_in seed top bottom leaf =
    if length seed == 48 then signer_with (height_in top) (bottom_in bottom) seed leaf else Err NoSeed
