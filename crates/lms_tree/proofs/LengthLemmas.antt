-- The lengths of keys and signatures.
use Rattle.std.proofs.Common.{◌≡◌, ℕ, ◌+◌, ◌/◌, ◌%◌, ◌^◌, List, ◌∷◌, ◌++◌, length, arith, length-append}
use Rattle.std.proofs.lemmas.List.{length-take-le}
use Rattle.lms_level.specs.Ots.{concatenation, signature_of, tagged_hash, u32str}
use Rattle.lms_level.proofs.Chains.{length-tagged_hash, length-u32str}
use Rattle.lms_level.proofs.Concatenation.{length-concatenation}
use Rattle.lms_level.specs.declared.height.Height.{Height}
use Rattle.lms_level.specs.Signature.{levels_of, public_key_of, signature_at, typecode_of}
use Rattle.lms_level.specs.Tree.{path_node, tree_node}
use Rattle.lms_level.proofs.SignatureLemmas.{length-signature_of}
use Rattle.lms_level.proofs.TreeLemmas.{length-tree_node}
use Rattle.lms_tree.specs.Levels.{bottom_id, bottom_key, bottom_secret, bottom_signature, hss_signature_at, signed_key}
use Rattle.lms_tree.specs.Signature.{lms_length}

-- a signature by one tree (RFC 8554, 5.4)
pub length-signature_at : (height : Height) (id secret : List ℕ) (leaf : ℕ) (message : List ℕ)
    → length (signature_at height id secret leaf message) ≡ lms_length height
length-signature_at height id secret leaf message =
    let h : ℕ = levels_of height in
    let f : ℕ → List ℕ = path_node h id secret (2 ^ h + leaf) in
    let l : List ℕ = u32str leaf in
    let o : List ℕ = signature_of id leaf secret message in
    let t : List ℕ = u32str (typecode_of height) in
    let each : (k : ℕ) → length (f k) ≡ 32 = λ k. length-tree_node h id secret _ in
    omega (
      arith,
      length-append (l ++ o ++ t) (concatenation f h),
      length-append (l ++ o) t,
      length-append l o,
      length-u32str leaf,
      length-signature_of id leaf secret message,
      length-u32str (typecode_of height),
      length-concatenation f 32 h each,
    )

-- a key of one tree (5.3)
pub length-public_key_of : (height : Height) (id secret : List ℕ) → length id ≡ 16 → length (public_key_of height id secret) ≡ 56
length-public_key_of height id secret wide =
    let t : List ℕ = u32str (typecode_of height) in
    let o : List ℕ = u32str 3 in
    let root : List ℕ = tree_node (levels_of height) id secret 1 in
    omega (
      arith,
      wide,
      length-append (t ++ o ++ id) root,
      length-append (t ++ o) id,
      length-append t o,
      length-u32str (typecode_of height),
      length-u32str 3,
      length-tree_node (levels_of height) id secret 1,
    )

-- I of a bottom tree
pub length-bottom_id : (id secret : List ℕ) (t : ℕ) → length (bottom_id id secret t) ≡ 16
length-bottom_id id secret t =
    let long : length (tagged_hash id t 0xffff (0xff ∷ secret)) ≡ 32 = length-tagged_hash id t _ _ in
    length-take-le 16 (tagged_hash id t 0xffff (0xff ∷ secret)) (omega arith)

pub length-bottom_key : (bottom : Height) (id secret : List ℕ) (t : ℕ) → length (bottom_key bottom id secret t) ≡ 56
length-bottom_key bottom id secret t = length-public_key_of bottom _ _ (length-bottom_id id secret t)

-- u32str (1) || sig[0]
pub length-front : (top : Height) (id secret : List ℕ) (t : ℕ) (key : List ℕ)
    → length (u32str 1 ++ signature_at top id secret t key) ≡ 4 + lms_length top
length-front top id secret t key =
    omega (arith, length-append (u32str 1) (signature_at top id secret t key), length-u32str 1, length-signature_at top id secret t key)

pub length-signed_key : (top bottom : Height) (id secret : List ℕ) (t : ℕ) → length (signed_key top bottom id secret t) ≡ 60 + lms_length top
length-signed_key top bottom id secret t =
    let key : List ℕ = bottom_key bottom id secret t in
    omega (arith, length-append (u32str 1 ++ signature_at top id secret t key) key, length-front top id secret t key, length-bottom_key bottom id secret t)

-- a signature of two levels (6.2)
pub length-hss_signature_at : (top bottom : Height) (id secret : List ℕ) (n : ℕ) (message : List ℕ)
    → length (hss_signature_at top bottom id secret n message) ≡ 60 + lms_length top + lms_length bottom
length-hss_signature_at top bottom id secret n message =
    let t : ℕ = n / 2 ^ levels_of bottom in
    let own : List ℕ = bottom_signature bottom id secret t (n % 2 ^ levels_of bottom) message in
    omega (
      arith,
      length-append (signed_key top bottom id secret t) own,
      length-signed_key top bottom id secret t,
      length-signature_at bottom (bottom_id id secret t) (bottom_secret id secret t) (n % 2 ^ levels_of bottom) message,
    )
