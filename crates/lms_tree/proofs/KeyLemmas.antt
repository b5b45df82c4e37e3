-- What holds of each signer's keys and signatures.
use Rattle.std.proofs.Common.{◌≡◌, ℕ, ◌+◌, ◌*◌, ◌/◌, ◌%◌, ◌^◌, ◌<◌, ◌≤◌, List, [], ◌++◌, length, Option, Some, None, sym, ◌∙◌, ap, arith}
use Rattle.std.proofs.lemmas.List.{append_assoc, append-nil}
use Rattle.lms_level.specs.Ots.{concatenation, signature_of, u32str}
use Rattle.lms_level.proofs.Chains.{length-u32str}
use Rattle.lms_level.specs.declared.height.Height.{Height}
use Rattle.lms_level.specs.declared.height.Height.TheVariants.{H5, H10}
use Rattle.lms_level.specs.Signature.{levels_of, signature_at, typecode_of, word_at}
use Rattle.lms_level.specs.Tree.{path_node}
use Rattle.lms_level.proofs.SignatureLemmas.{signature-valid, word-encoded, word-signature}
use Rattle.lms_tree.specs.Keys.{key_by, length_by, number_by, signature_by}
use Rattle.lms_tree.specs.Levels.{bottom_id, bottom_key, bottom_secret, bottom_signature, hss_signature_at, signed_key}
use Rattle.lms_tree.specs.Signature.{lms_length, signature_fault, signed_key_in}
use Rattle.lms_tree.specs.SigningState.{total_of}
use Rattle.lms_tree.proofs.PositionLemmas.{hss-valid, leaf-within, signed_key-part, tree-within}
use Rattle.lms_tree.proofs.LengthLemmas.{length-hss_signature_at, length-signature_at, length-signed_key}

-- ---- bounds

pub few-leaves : (height : Height) (bottom : Option Height) → total_of height bottom ≤ 2 ^ 20
few-leaves H5 None = omega arith
few-leaves H10 None = omega arith
few-leaves H5 (Some H5) = omega arith
few-leaves H5 (Some H10) = omega arith
few-leaves H10 (Some H5) = omega arith
few-leaves H10 (Some H10) = omega arith

pub short-signature : (height : Height) (bottom : Option Height) → length_by height bottom ≤ 5076
short-signature H5 None = omega arith
short-signature H10 None = omega arith
short-signature H5 (Some H5) = omega arith
short-signature H5 (Some H10) = omega arith
short-signature H10 (Some H5) = omega arith
short-signature H10 (Some H10) = omega arith

-- ---- each signature

pub length-signature_by : (height : Height) (bottom : Option Height) (id secret : List ℕ) (n : ℕ) (message : List ℕ)
    → length (signature_by height bottom id secret n message) ≡ length_by height bottom
length-signature_by height None id secret n message = length-signature_at height id secret n message
length-signature_by top (Some bottom) id secret n message = length-hss_signature_at top bottom id secret n message

pub valid-signature_by : (height : Height) (bottom : Option Height) (id secret : List ℕ) (n : ℕ) (message : List ℕ) → length id ≡ 16 → n < total_of height bottom
    → signature_fault (key_by height bottom id secret) message (signature_by height bottom id secret n message) ≡ None
valid-signature_by height None id secret n message wide small = signature-valid height id secret message n wide small
valid-signature_by top (Some bottom) id secret n message wide small = hss-valid top bottom id secret message n wide small

-- the leaf at the head of a tree's signature
first_word : (p : List ℕ) (height : Height) (id secret : List ℕ) (leaf at : ℕ) (message q : List ℕ) → length p ≡ at → leaf < 2 ^ 32
    → word_at (p ++ (signature_at height id secret leaf message ++ q)) at ≡ leaf
first_word p height id secret leaf at message q e small =
    let h : ℕ = levels_of height in
    let l : List ℕ = u32str leaf in
    let o : List ℕ = signature_of id leaf secret message in
    let t : List ℕ = u32str (typecode_of height) in
    let f : List ℕ = concatenation (path_node h id secret (2 ^ h + leaf)) h in
    ap (λ s. word_at (p ++ (s ++ q)) at) (append_assoc (l ++ o) t f ∙ append_assoc l o (t ++ f))
    ∙ (ap (λ s. word_at (p ++ s) at) (append_assoc l (o ++ (t ++ f)) q)
    ∙ (ap (λ s. word_at s at) (sym (append_assoc p l (o ++ (t ++ f) ++ q))) ∙ word-encoded p leaf (o ++ (t ++ f) ++ q) at e small))

below-word : (height : Height) (n : ℕ) → n < 2 ^ levels_of height → n < 2 ^ 32
below-word H5 n h = omega arith
below-word H10 n h = omega arith

-- the top tree's leaf
pub top-leaf : (top bottom : Height) (id secret : List ℕ) (n : ℕ) (message : List ℕ) → n < 2 ^ (levels_of top + levels_of bottom)
    → word_at (hss_signature_at top bottom id secret n message) 4 ≡ n / 2 ^ levels_of bottom
top-leaf top bottom id secret n message small =
    let t : ℕ = n / 2 ^ levels_of bottom in
    let a : List ℕ = u32str 1 in
    let b : List ℕ = signature_at top id secret t (bottom_key bottom id secret t) in
    let c : List ℕ = bottom_key bottom id secret t in
    let d : List ℕ = bottom_signature bottom id secret t (n % 2 ^ levels_of bottom) message in
    ap (λ s. word_at s 4) (append_assoc (a ++ b) c d ∙ append_assoc a b (c ++ d))
    ∙ first_word a top id secret t 4 (bottom_key bottom id secret t) (c ++ d) (length-u32str 1) (below-word top t (tree-within top bottom n small))

-- the bottom tree's leaf
pub bottom-leaf : (top bottom : Height) (id secret : List ℕ) (n : ℕ) (message : List ℕ)
    → word_at (hss_signature_at top bottom id secret n message) (60 + lms_length top) ≡ n % 2 ^ levels_of bottom
bottom-leaf top bottom id secret n message =
    let t : ℕ = n / 2 ^ levels_of bottom in
    let leaf : ℕ = n % 2 ^ levels_of bottom in
    let front : List ℕ = signed_key top bottom id secret t in
    let own : List ℕ = bottom_signature bottom id secret t leaf message in
    ap (λ s. word_at (front ++ s) (60 + lms_length top)) (sym (append-nil own))
    ∙ first_word front bottom (bottom_id id secret t) (bottom_secret id secret t) leaf (60 + lms_length top) message [] (length-signed_key top bottom id secret t)
    (below-word bottom leaf (leaf-within bottom n))

div-mod : (bottom : Height) (n : ℕ) → n / 2 ^ levels_of bottom * 2 ^ levels_of bottom + n % 2 ^ levels_of bottom ≡ n
div-mod H5 n = omega arith
div-mod H10 n = omega arith

-- a signature's leaves name its number
pub number-signature_by : (height : Height) (bottom : Option Height) (id secret : List ℕ) (n : ℕ) (message : List ℕ) → n < total_of height bottom
    → number_by height bottom (signature_by height bottom id secret n message) ≡ n
number-signature_by height None id secret n message small = word-signature height id secret message n small
number-signature_by top (Some bottom) id secret n message small =
    let sig : List ℕ = hss_signature_at top bottom id secret n message in
    ap (λ t. t * 2 ^ levels_of bottom + word_at sig (60 + lms_length top)) (top-leaf top bottom id secret n message small)
    ∙ (ap (λ leaf. n / 2 ^ levels_of bottom * 2 ^ levels_of bottom + leaf) (bottom-leaf top bottom id secret n message) ∙ div-mod bottom n)

-- ---- two signatures

pub other-leaf : (height : Height) (bottom : Option Height) (id secret : List ℕ) (n m : ℕ) (first second : List ℕ) → n < total_of height bottom → m < total_of height bottom
    → number_by height bottom (signature_by height bottom id secret n first) ≡ number_by height bottom (signature_by height bottom id secret m second) → n ≡ m
other-leaf height bottom id secret n m first second small smaller same =
    sym (number-signature_by height bottom id secret n first small) ∙ (same ∙ number-signature_by height bottom id secret m second smaller)

pub one-key : (top bottom : Height) (id secret : List ℕ) (n m : ℕ) (first second : List ℕ) → n < 2 ^ (levels_of top + levels_of bottom) → m < 2 ^ (levels_of top + levels_of bottom)
    → word_at (hss_signature_at top bottom id secret n first) 4 ≡ word_at (hss_signature_at top bottom id secret m second) 4
    → signed_key_in top (hss_signature_at top bottom id secret n first) ≡ signed_key_in top (hss_signature_at top bottom id secret m second)
one-key top bottom id secret n m first second small smaller same =
    let tree : n / 2 ^ levels_of bottom ≡ m / 2 ^ levels_of bottom =
    sym (top-leaf top bottom id secret n first small) ∙ (same ∙ top-leaf top bottom id secret m second smaller) in
    signed_key-part top bottom id secret n first
    ∙ (ap (bottom_key bottom id secret) tree ∙ sym (signed_key-part top bottom id secret m second))
