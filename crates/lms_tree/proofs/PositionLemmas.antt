-- Where the parts of a key and of a signature of two levels lie, and that the signature is valid.
use Rattle.std.proofs.Common.{◌≡◌, ℕ, ◌+◌, ◌/◌, ◌%◌, ◌^◌, ◌<◌, List, [], ◌++◌, length, take, drop, Some, None, refl, ◌∙◌, ap, arith}
use Rattle.std.proofs.lemmas.List.{append_assoc, drop_at, take_at}
use Rattle.lms_level.specs.Ots.{u32str}
use Rattle.lms_level.proofs.Chains.{length-u32str}
use Rattle.lms_level.specs.declared.height.Height.{Height}
use Rattle.lms_level.specs.declared.height.Height.TheVariants.{H5, H10}
use Rattle.lms_level.specs.Signature.{key_height, levels_of, public_key_of, signature_at, word_at, signature_fault as lms_fault}
use Rattle.lms_level.proofs.SignatureLemmas.{key_height-public_key, signature-valid, word-encoded}
use Rattle.lms_tree.specs.Levels.{bottom_key, bottom_signature, hss_key_of, hss_signature_at, signed_key}
use Rattle.lms_tree.specs.Signature.{fault_of_parts, hss_fault, key_signature_in, last_signature_in, lms_length, or_then, signed_key_in, top_key_in}
use Rattle.lms_tree.proofs.FaultLemmas.{of_parts}
use Rattle.lms_tree.proofs.LengthLemmas.{length-bottom_id, length-bottom_key, length-front, length-hss_signature_at, length-signature_at, length-signed_key}

-- ---- lists in four parts

second_of_four : (a b c d : List ℕ) (n : ℕ) → length a ≡ 4 → length b ≡ n → take n (drop 4 (a ++ b ++ c ++ d)) ≡ b
second_of_four a b c d n ea eb =
    ap (λ s. take n (drop 4 s)) (append_assoc (a ++ b) c d ∙ append_assoc a b (c ++ d))
    ∙ (ap (take n) (drop_at a (b ++ (c ++ d)) 4 ea) ∙ take_at b (c ++ d) n eb)

third_of_four : (a b c d : List ℕ) (n m : ℕ) → length (a ++ b) ≡ n → length c ≡ m → take m (drop n (a ++ b ++ c ++ d)) ≡ c
third_of_four a b c d n m e ec =
    ap (λ s. take m (drop n s)) (append_assoc (a ++ b) c d)
    ∙ (ap (take m) (drop_at (a ++ b) (c ++ d) n e) ∙ take_at c d m ec)

-- ---- the key

pub key_levels : (top : Height) (id secret : List ℕ) → word_at (hss_key_of top id secret) 0 ≡ 2
key_levels top id secret = word-encoded [] 2 (public_key_of top id secret) 0 refl (omega arith)

pub key_top : (top : Height) (id secret : List ℕ) → top_key_in (hss_key_of top id secret) ≡ public_key_of top id secret
key_top top id secret = drop_at (u32str 2) (public_key_of top id secret) 4 (length-u32str 2)

-- ---- the signature

count-word : (top bottom : Height) (id secret : List ℕ) (n : ℕ) (message : List ℕ) → word_at (hss_signature_at top bottom id secret n message) 0 ≡ 1
count-word top bottom id secret n message =
    let t : ℕ = n / 2 ^ levels_of bottom in
    let a : List ℕ = u32str 1 in
    let b : List ℕ = signature_at top id secret t (bottom_key bottom id secret t) in
    let c : List ℕ = bottom_key bottom id secret t in
    let d : List ℕ = bottom_signature bottom id secret t (n % 2 ^ levels_of bottom) message in
    ap (λ s. word_at s 0) (append_assoc (a ++ b) c d ∙ append_assoc a b (c ++ d)) ∙ word-encoded [] 1 (b ++ (c ++ d)) 0 refl (omega arith)

pub key_signature-part : (top bottom : Height) (id secret : List ℕ) (n : ℕ) (message : List ℕ)
    → key_signature_in top (hss_signature_at top bottom id secret n message)
    ≡ signature_at top id secret (n / 2 ^ levels_of bottom) (bottom_key bottom id secret (n / 2 ^ levels_of bottom))
key_signature-part top bottom id secret n message =
    let t : ℕ = n / 2 ^ levels_of bottom in
    second_of_four (u32str 1) (signature_at top id secret t (bottom_key bottom id secret t)) (bottom_key bottom id secret t)
    (bottom_signature bottom id secret t (n % 2 ^ levels_of bottom) message) (lms_length top) (length-u32str 1)
    (length-signature_at top id secret t (bottom_key bottom id secret t))

pub signed_key-part : (top bottom : Height) (id secret : List ℕ) (n : ℕ) (message : List ℕ)
    → signed_key_in top (hss_signature_at top bottom id secret n message) ≡ bottom_key bottom id secret (n / 2 ^ levels_of bottom)
signed_key-part top bottom id secret n message =
    let t : ℕ = n / 2 ^ levels_of bottom in
    third_of_four (u32str 1) (signature_at top id secret t (bottom_key bottom id secret t)) (bottom_key bottom id secret t)
    (bottom_signature bottom id secret t (n % 2 ^ levels_of bottom) message) (4 + lms_length top) 56
    (length-front top id secret t (bottom_key bottom id secret t)) (length-bottom_key bottom id secret t)

pub last_signature-part : (top bottom : Height) (id secret : List ℕ) (n : ℕ) (message : List ℕ)
    → last_signature_in top (hss_signature_at top bottom id secret n message)
    ≡ bottom_signature bottom id secret (n / 2 ^ levels_of bottom) (n % 2 ^ levels_of bottom) message
last_signature-part top bottom id secret n message =
    let t : ℕ = n / 2 ^ levels_of bottom in
    drop_at (signed_key top bottom id secret t) (bottom_signature bottom id secret t (n % 2 ^ levels_of bottom) message) (60 + lms_length top)
    (length-signed_key top bottom id secret t)

-- ---- the whole

-- the numbers of leaves and trees
pub tree-within : (top bottom : Height) (n : ℕ) → n < 2 ^ (levels_of top + levels_of bottom) → n / 2 ^ levels_of bottom < 2 ^ levels_of top
tree-within H5 H5 n h = omega arith
tree-within H5 H10 n h = omega arith
tree-within H10 H5 n h = omega arith
tree-within H10 H10 n h = omega arith

pub leaf-within : (bottom : Height) (n : ℕ) → n % 2 ^ levels_of bottom < 2 ^ levels_of bottom
leaf-within H5 n = omega arith
leaf-within H10 n = omega arith

no_fault-parts : (top : Height) (key message sig : List ℕ) → lms_fault (top_key_in key) (signed_key_in top sig) (key_signature_in top sig) ≡ None
    → lms_fault (signed_key_in top sig) message (last_signature_in top sig) ≡ None → fault_of_parts top key message sig ≡ None
no_fault-parts top key message sig first second =
    ap (λ f. or_then f (lms_fault (signed_key_in top sig) message (last_signature_in top sig))) first ∙ second

pub hss-valid : (top bottom : Height) (id secret message : List ℕ) (n : ℕ) → length id ≡ 16 → n < 2 ^ (levels_of top + levels_of bottom)
    → hss_fault (hss_key_of top id secret) message (hss_signature_at top bottom id secret n message) ≡ None
hss-valid top bottom id secret message n wide small =
    let t : ℕ = n / 2 ^ levels_of bottom in
    let key : List ℕ = hss_key_of top id secret in
    let sig : List ℕ = hss_signature_at top bottom id secret n message in
    let known : key_height (top_key_in key) ≡ Some top = ap key_height (key_top top id secret) ∙ key_height-public_key top id secret in
    let own : signed_key_in top sig ≡ bottom_key bottom id secret t = signed_key-part top bottom id secret n message in
    let below : key_height (signed_key_in top sig) ≡ Some bottom = ap key_height own ∙ key_height-public_key bottom _ _ in
    let first : lms_fault (top_key_in key) (signed_key_in top sig) (key_signature_in top sig) ≡ None =
    ap (λ k. lms_fault k (signed_key_in top sig) (key_signature_in top sig)) (key_top top id secret)
    ∙ (ap (λ m. lms_fault (public_key_of top id secret) m (key_signature_in top sig)) own
    ∙ (ap (λ s. lms_fault (public_key_of top id secret) (bottom_key bottom id secret t) s) (key_signature-part top bottom id secret n message)
    ∙ signature-valid top id secret (bottom_key bottom id secret t) t wide (tree-within top bottom n small))) in
    let second : lms_fault (signed_key_in top sig) message (last_signature_in top sig) ≡ None =
    ap (λ k. lms_fault k message (last_signature_in top sig)) own
    ∙ (ap (λ s. lms_fault (bottom_key bottom id secret t) message s) (last_signature-part top bottom id secret n message)
    ∙ signature-valid bottom _ _ message (n % 2 ^ levels_of bottom) (length-bottom_id id secret t) (leaf-within bottom n)) in
    of_parts top bottom key message sig (key_levels top id secret) known (length-hss_signature_at top bottom id secret n message)
    (count-word top bottom id secret n message) below ∙ no_fault-parts top key message sig first second
