-- Statement: public keys, signatures and their validity under LMS (RFC 8554, sections 5.3 and 5.4), as functions
-- on lists of bytes.
use Rattle.std.specs.Prelude.{ℕ, ◌+◌, ◌*◌, ◌^◌, nat_le, ◌==◌, ◌&&◌, List, [], ◌∷◌, ◌++◌, length, take, drop, slice_index, Option, Some, None, if◌then◌else◌}
use Rattle.std.specs.Int.{w32, from_be_bytes}
use Rattle.std.specs.Str.{bytes_eq}
use Rattle.lms_ots.specs.Ots.{candidate_of, concatenation, signature_of, u32str}
use Rattle.lms_level.specs.Tree.{root_from_path, leaf_node, path_node, tree_node}
use Rattle.lms_level.specs.declared.height.Height.{Height}
use Rattle.lms_level.specs.declared.height.Height.TheVariants.{H5, H10}
use Rattle.lms_level.specs.declared.fault.SigFault.{SigFault}
use Rattle.lms_level.specs.declared.fault.SigFault.TheVariants.{Length, WrongType, Leaf, Mismatch}

-- h: the levels above the leaves (5.1)
abbrev pub levels_of : Height → ℕ
levels_of H5 = 5
levels_of H10 = 10

-- the typecode: LMS_SHA256_M32_H5 and LMS_SHA256_M32_H10 (5.1)
abbrev pub typecode_of : Height → ℕ
typecode_of H5 = 5
typecode_of H10 = 6

-- the typecode of the one-time signatures, LMOTS_SHA256_N32_W4 (4.1)
abbrev pub ots_typecode : ℕ
ots_typecode = 3

-- ---- what a signer makes

-- u32str (type) || u32str (otstype) || I || T[1] (5.3)
abbrev pub public_key_of : Height → List ℕ → List ℕ → List ℕ
public_key_of height id secret =
    u32str (typecode_of height) ++ u32str ots_typecode ++ id ++ tree_node (levels_of height) id secret 1

-- u32str (q) || lmots_signature || u32str (type) || path[0] || .. || path[h-1] (5.4.1)
abbrev pub signature_at : Height → List ℕ → List ℕ → ℕ → List ℕ → List ℕ
signature_at height id secret leaf message =
    let h = levels_of height in
    u32str leaf ++ signature_of id leaf secret message ++ u32str (typecode_of height)
    ++ concatenation (path_node h id secret (2 ^ h + leaf)) h

-- ---- what a verifier reads

-- strTou32: the number in the 4 bytes from offset `at` on (3.1.1)
unfoldable pub word_at : List ℕ → ℕ → ℕ
word_at s at = from_be_bytes w32
    (slice_index s at ∷ slice_index s (at + 1) ∷ slice_index s (at + 2) ∷ slice_index s (at + 3) ∷ [])

-- the height that a typecode names
abbrev pub height_of_typecode : ℕ → Option Height
height_of_typecode word = if word == 5 then Some H5 else (if word == 6 then Some H10 else None)

-- the height of a public key, if its two types are known
abbrev pub key_height : List ℕ → Option Height
key_height key = if word_at key 4 == ots_typecode then height_of_typecode (word_at key 0) else None

-- I of a public key
abbrev pub key_id : List ℕ → List ℕ
key_id key = take 16 (drop 8 key)

-- T[1] of a public key
abbrev pub key_root : List ℕ → List ℕ
key_root key = take 32 (drop 24 key)

-- the one-time signature in a signature
abbrev pub ots_in : List ℕ → List ℕ
ots_in sig = take 2180 (drop 4 sig)

-- path[i] in a signature
abbrev pub path_in : List ℕ → ℕ → List ℕ
path_in sig i = take 32 (drop (2188 + 32 * i) sig)

-- Tc: the root that a signature leads to (5.4.2, steps 3 and 4)
abbrev pub candidate_root : ℕ → List ℕ → List ℕ → List ℕ → List ℕ
candidate_root h id message sig =
    let q = word_at sig 0 in
    let r = 2 ^ h + q in
    root_from_path id r (leaf_node id r (candidate_of id q message (ots_in sig))) (path_in sig) h

-- what is wrong with a signature under a key of this height, the first of the faults
abbrev pub fault_under : Option Height → List ℕ → List ℕ → List ℕ → Option SigFault
fault_under None key message sig = Some WrongType
fault_under (Some height) key message sig =
    let h = levels_of height in
    if length sig == 2188 + 32 * h
    then (if word_at sig 4 == ots_typecode && word_at sig 2184 == typecode_of height
    then (if nat_le (2 ^ h) (word_at sig 0)
    then Some Leaf
    else (if bytes_eq (candidate_root h (key_id key) message sig) (key_root key)
    then None
    else Some Mismatch))
    else Some WrongType)
    else Some Length

-- what is wrong with a signature of a message under a public key: nothing where it is valid (5.4.2).
-- The key's types are asked first, then the signature's length, its types, its leaf, and its root
abbrev pub signature_fault : List ℕ → List ℕ → List ℕ → Option SigFault
signature_fault key message sig = fault_under (key_height key) key message sig
