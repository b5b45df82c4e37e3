-- A tree's signature is valid under its public key.
use Rattle.std.proofs.Common.{◌≡◌, ℕ, ◌+◌, ◌-◌, ◌*◌, ◌/◌, ◌^◌, ◌<◌, ◌≤◌, List, [], ◌∷◌, ◌++◌, length, get_or, take, drop, Option, Some, None, Bool, true, nat_eq, nat_le, ◌&&◌, if◌then◌else◌, refl, sym, ◌∙◌, ap, arith, length-append}
use Rattle.std.specs.Int.{w32, from_be_bytes}
use Rattle.std.specs.Str.{bytes_eq}
use Rattle.std.proofs.lemmas.Bool.{and_from, cond-false, cond-true, eq-eqb, lt-leb}
use Rattle.std.proofs.lemmas.List.{append_assoc, drop-drop, drop_at, get_or-append-add, take_all, take_at}
use Rattle.std.proofs.lemmas.Nat.{div_below, from_be_bytes-to_be_bytes_4, le-div, pow_pos}
use Rattle.std.proofs.lemmas.Slice.Eq.{bytes_eq-Decides}
use Rattle.lms_ots.specs.Ots.{candidate_of, chain_start, digit, concatenation, message_hash, public_value, randomizer, signature_of, u32str}
use Rattle.lms_ots.proofs.Chains.{length-chain, length-tagged_hash, length-u32str}
use Rattle.lms_ots.proofs.Concatenation.{length-concatenation, piece-concatenation}
use Rattle.lms_ots.proofs.Law.{candidate-signature}
use Rattle.lms_level.specs.declared.fault.SigFault.{SigFault}
use Rattle.lms_level.specs.declared.fault.SigFault.TheVariants.{Mismatch}
use Rattle.lms_level.specs.declared.height.Height.{Height}
use Rattle.lms_level.specs.declared.height.Height.TheVariants.{H5, H10}
use Rattle.lms_level.specs.Signature.{candidate_root, fault_under, height_of_typecode, key_height, key_id, key_root, levels_of, ots_in, path_in, public_key_of, signature_at, signature_fault, typecode_of, word_at}
use Rattle.lms_level.specs.Tree.{root_from_path, leaf_node, path_node, tree_node}
use Rattle.lms_level.proofs.TreeLemmas.{root_from_path-tree, length-tree_node, node-leaf}

-- ---- words

-- a word that begins behind a list
word-behind : (p t : List ℕ) (at : ℕ) → length p ≡ at → word_at (p ++ t) at ≡ word_at t 0
unfolding word_at
word-behind p t at e =
    let byte : (n : ℕ) → get_or (p ++ t) (at + n) 0 ≡ get_or t n 0 =
    λ n. ap (λ k. get_or (p ++ t) (k + n) 0) (sym e) ∙ get_or-append-add p t n 0 in
    let first : get_or (p ++ t) at 0 ≡ get_or t 0 0 =
    ap (λ k. get_or (p ++ t) k 0) (let k : at ≡ at + 0 = omega arith in k) ∙ byte 0 in
    let bytes : get_or (p ++ t) at 0 ∷ get_or (p ++ t) (at + 1) 0 ∷ get_or (p ++ t) (at + 2) 0 ∷ get_or (p ++ t) (at + 3) 0 ∷ []
    ≡ get_or t 0 0 ∷ get_or t 1 0 ∷ get_or t 2 0 ∷ get_or t 3 0 ∷ [] =
    cc (first, byte 1, byte 2, byte 3) in
    ap (from_be_bytes w32) bytes

-- a number that is encoded at the head
word-head : (n : ℕ) (t : List ℕ) → n < 2 ^ 32 → word_at (u32str n ++ t) 0 ≡ n
unfolding word_at u32str
word-head n t h = from_be_bytes-to_be_bytes_4 n h

-- a number that is encoded behind a list
pub word-encoded : (p : List ℕ) (n : ℕ) (t : List ℕ) (at : ℕ) → length p ≡ at → n < 2 ^ 32 → word_at (p ++ u32str n ++ t) at ≡ n
word-encoded p n t at e h =
    ap (λ s. word_at s at) (append_assoc p (u32str n) t) ∙ (word-behind p (u32str n ++ t) at e ∙ word-head n t h)

-- ---- lengths

type-lt : (height : Height) → typecode_of height < 2 ^ 32
type-lt H5 = omega arith
type-lt H10 = omega arith

leaf-lt : (height : Height) (leaf : ℕ) → leaf < 2 ^ levels_of height → leaf < 2 ^ 32
leaf-lt H5 leaf h = omega arith
leaf-lt H10 leaf h = omega arith

pub length-signature_of : (id : List ℕ) (leaf : ℕ) (secret message : List ℕ) → length (signature_of id leaf secret message) ≡ 2180
length-signature_of id leaf secret message =
    let c : List ℕ = randomizer id leaf secret in
    let q : List ℕ = message_hash id leaf c message in
    let f : ℕ → List ℕ = λ i. Rattle.lms_ots.specs.Ots.chain id leaf i 0 (digit q i) (chain_start id leaf secret i) in
    let each : (i : ℕ) → length (f i) ≡ 32 = λ i. length-chain id leaf i 0 (digit q i) _ (length-tagged_hash id leaf i _) in
    omega (arith, length-append (u32str 3 ++ c) (concatenation f 67), length-append (u32str 3) c, length-u32str 3, length-tagged_hash id leaf 0xfffd (0xff ∷ secret), length-concatenation f 32 67 each)

-- ---- the parts of a key

height_of_typecode-type : (height : Height) → height_of_typecode (typecode_of height) ≡ Some height
height_of_typecode-type H5 = refl
height_of_typecode-type H10 = refl

-- the types of a signer's key are known
pub key_height-public_key : (height : Height) (id secret : List ℕ) → key_height (public_key_of height id secret) ≡ Some height
key_height-public_key height id secret =
    let t : List ℕ = u32str (typecode_of height) in
    let o : List ℕ = u32str 3 in
    let root : List ℕ = tree_node (levels_of height) id secret 1 in
    let key : List ℕ = t ++ o ++ id ++ root in
    let fourth : word_at key 4 ≡ 3 =
    ap (λ s. word_at s 4) (append_assoc (t ++ o) id root) ∙ word-encoded t 3 (id ++ root) 4 (length-u32str _) (omega arith) in
    let first : word_at key 0 ≡ typecode_of height =
    ap (λ s. word_at s 0) (append_assoc (t ++ o) id root ∙ append_assoc t o (id ++ root))
    ∙ word-head (typecode_of height) (o ++ (id ++ root)) (type-lt height) in
    cond-true (nat_eq (word_at key 4) 3) (height_of_typecode (word_at key 0)) None (eq-eqb (word_at key 4) 3 fourth)
    ∙ (ap height_of_typecode first ∙ height_of_typecode-type height)

part_id : (t o id root : List ℕ) → length t ≡ 4 → length o ≡ 4 → length id ≡ 16 → key_id (t ++ o ++ id ++ root) ≡ id
part_id t o id root et eo ei =
    let head : length (t ++ o) ≡ 8 = omega (arith, length-append t o) in
    ap (λ s. take 16 (drop 8 s)) (append_assoc (t ++ o) id root)
    ∙ (ap (λ s. take 16 s) (drop_at (t ++ o) (id ++ root) 8 head) ∙ take_at id root 16 ei)

part_root : (t o id root : List ℕ) → length t ≡ 4 → length o ≡ 4 → length id ≡ 16 → length root ≡ 32 → key_root (t ++ o ++ id ++ root) ≡ root
part_root t o id root et eo ei er =
    let head : length (t ++ o ++ id) ≡ 24 = omega (arith, length-append t o, length-append (t ++ o) id) in
    ap (λ s. take 32 s) (drop_at (t ++ o ++ id) root 24 head) ∙ take_all 32 root (omega arith)

-- ---- the parts of a signature

part_ots : (l o t p : List ℕ) → length l ≡ 4 → length o ≡ 2180 → ots_in (l ++ o ++ t ++ p) ≡ o
part_ots l o t p el eo =
    ap (λ s. take 2180 (drop 4 s)) (append_assoc (l ++ o) t p ∙ append_assoc l o (t ++ p))
    ∙ (ap (λ s. take 2180 s) (drop_at l (o ++ (t ++ p)) 4 el) ∙ take_at o (t ++ p) 2180 eo)

part_path : (l : List ℕ) (f : ℕ → List ℕ) (n i : ℕ) → length l ≡ 2188 → ((k : ℕ) → length (f k) ≡ 32) → i < n
    → path_in (l ++ concatenation f n) i ≡ f i
part_path l f n i el each h =
    ap (λ s. take 32 s) (sym (drop-drop (32 * i) 2188 (l ++ concatenation f n)) ∙ ap (λ s. drop (32 * i) s) (drop_at l (concatenation f n) 2188 el))
    ∙ piece-concatenation f 32 n i each h

-- the typecode of the one-time signature
ots_word : (l c j r : List ℕ) → length l ≡ 4 → word_at (l ++ (u32str 3 ++ c ++ j) ++ r) 4 ≡ 3
ots_word l c j r el =
    let u : List ℕ = u32str 3 in
    ap (λ s. word_at s 4) (append_assoc l (u ++ c ++ j) r)
    ∙ (word-behind l (u ++ c ++ j ++ r) 4 el
    ∙ (ap (λ s. word_at s 0) (append_assoc (u ++ c) j r ∙ append_assoc u c (j ++ r)) ∙ word-head 3 (c ++ (j ++ r)) (omega arith)))

-- ---- the root

-- a leaf's candidate and its path lead to the root
root-signature : (h : ℕ) (id secret message : List ℕ) (leaf : ℕ) (path : ℕ → List ℕ) → leaf < 2 ^ h
    → ((k : ℕ) → k < h → path k ≡ path_node h id secret (2 ^ h + leaf) k)
    → root_from_path id (2 ^ h + leaf) (leaf_node id (2 ^ h + leaf) (candidate_of id leaf message (signature_of id leaf secret message))) path h
    ≡ tree_node h id secret 1
root-signature h id secret message leaf path small each =
    let r : ℕ = 2 ^ h + leaf in
    let low : 2 ^ h ≤ r = omega arith in
    let high : r < 2 * 2 ^ h = omega arith in
    let own : leaf ≡ r - 2 ^ h = omega arith in
    let value : leaf_node id r (candidate_of id leaf message (signature_of id leaf secret message)) ≡ tree_node h id secret r =
    ap (λ v. leaf_node id r v) (candidate-signature id secret message leaf ∙ ap (λ k. public_value id k secret) own)
    ∙ sym (node-leaf h id secret r low) in
    let least : 1 ≤ r / 2 ^ h = le-div 1 r (2 ^ h) (pow_pos h) (omega arith) in
    let most : r / 2 ^ h < 2 = div_below r (2 ^ h) 2 (pow_pos h) high in
    let top : r / 2 ^ h ≡ 1 = omega arith in
    ap (λ v. root_from_path id r v path h) value
    ∙ (root_from_path-tree h id secret r h path low high (omega arith) each ∙ ap (tree_node h id secret) top)

-- ---- the whole

bytes_same : (xs ys : List ℕ) → xs ≡ ys → bytes_eq xs ys ≡ true
bytes_same xs ys e = (bytes_eq-Decides xs ys).1 e

-- the fault of a signature whose other parts are right is that of its root
pub root_fault : (height : Height) (key message sig root : List ℕ) (same : Bool) → key_height key ≡ Some height
    → length sig ≡ 2188 + 32 * levels_of height → word_at sig 4 ≡ 3 → word_at sig 2184 ≡ typecode_of height → word_at sig 0 < 2 ^ levels_of height
    → root ≡ candidate_root (levels_of height) (key_id key) message sig → same ≡ bytes_eq root (key_root key)
    → signature_fault key message sig ≡ (if same then None else Some Mismatch)
root_fault height key message sig root same known long ots type leaf is_root is_same =
    let fault : Bool → Option SigFault = λ b. if b then None else Some Mismatch in
    ap (λ o. fault_under o key message sig) known
    ∙ (cond-true (nat_eq (length sig) (2188 + 32 * levels_of height)) _ _ (eq-eqb _ _ long)
    ∙ (cond-true (nat_eq (word_at sig 4) 3 && nat_eq (word_at sig 2184) (typecode_of height)) _ _ (and_from _ _ (eq-eqb _ _ ots) (eq-eqb _ _ type))
    ∙ (cond-false (nat_le (2 ^ levels_of height) (word_at sig 0)) _ _ (lt-leb _ _ leaf)
    ∙ (ap (λ r. fault (bytes_eq r (key_root key))) (sym is_root) ∙ ap fault (sym is_same)))))

-- a signature whose parts are right has no fault
no_fault : (height : Height) (key message sig : List ℕ) → key_height key ≡ Some height → length sig ≡ 2188 + 32 * levels_of height
    → word_at sig 4 ≡ 3 → word_at sig 2184 ≡ typecode_of height → word_at sig 0 < 2 ^ levels_of height
    → candidate_root (levels_of height) (key_id key) message sig ≡ key_root key → signature_fault key message sig ≡ None
no_fault height key message sig known long ots type leaf root =
    root_fault height key message sig _ true known long ots type leaf refl (sym (bytes_same _ _ root))

-- the leaf that a signature names
pub word-signature : (height : Height) (id secret message : List ℕ) (leaf : ℕ) → leaf < 2 ^ levels_of height
    → word_at (signature_at height id secret leaf message) 0 ≡ leaf
word-signature height id secret message leaf small =
    let l : List ℕ = u32str leaf in
    let o : List ℕ = signature_of id leaf secret message in
    let t : List ℕ = u32str (typecode_of height) in
    let p : List ℕ = concatenation (path_node (levels_of height) id secret (2 ^ levels_of height + leaf)) (levels_of height) in
    ap (λ s. word_at s 0) (append_assoc (l ++ o) t p ∙ append_assoc l o (t ++ p)) ∙ word-head leaf (o ++ (t ++ p)) (leaf-lt height leaf small)

pub signature-valid : (height : Height) (id secret message : List ℕ) (leaf : ℕ) → length id ≡ 16 → leaf < 2 ^ levels_of height
    → signature_fault (public_key_of height id secret) message (signature_at height id secret leaf message) ≡ None
signature-valid height id secret message leaf wide small =
    let h : ℕ = levels_of height in
    let f : ℕ → List ℕ = path_node h id secret (2 ^ h + leaf) in
    let l : List ℕ = u32str leaf in
    let o : List ℕ = signature_of id leaf secret message in
    let t : List ℕ = u32str (typecode_of height) in
    let s : List ℕ = l ++ o ++ t ++ concatenation f h in
    let key : List ℕ = public_key_of height id secret in
    let root : List ℕ = tree_node h id secret 1 in
    let el : length l ≡ 4 = length-u32str leaf in
    let eo : length o ≡ 2180 = length-signature_of id leaf secret message in
    let et : length t ≡ 4 = length-u32str (typecode_of height) in
    let each : (k : ℕ) → length (f k) ≡ 32 = λ k. length-tree_node h id secret _ in
    let head : length (l ++ o) ≡ 2184 = omega (arith, length-append l o) in
    let front : length (l ++ o ++ t) ≡ 2188 = omega (arith, length-append (l ++ o) t) in
    let long : length s ≡ 2188 + 32 * h = omega (arith, length-append (l ++ o ++ t) (concatenation f h), length-concatenation f 32 h each) in
    let from_typecode : word_at s 0 ≡ leaf = word-signature height id secret message leaf small in
    let type : word_at s 2184 ≡ typecode_of height = word-encoded (l ++ o) (typecode_of height) (concatenation f h) 2184 head (type-lt height) in
    let ots : word_at s 4 ≡ 3 = ap (λ x. word_at x 4) (append_assoc (l ++ o) t (concatenation f h)) ∙ ots_word l _ _ (t ++ concatenation f h) el in
    let same_id : key_id key ≡ id = part_id t (u32str 3) id root et (length-u32str 3) wide in
    let same_root : key_root key ≡ root = part_root t (u32str 3) id root et (length-u32str 3) wide (length-tree_node h id secret 1) in
    let same_ots : ots_in s ≡ o = part_ots l o t (concatenation f h) el eo in
    let climb : List ℕ → ℕ → List ℕ → List ℕ =
    λ i q x. root_from_path i (2 ^ h + q) (leaf_node i (2 ^ h + q) (candidate_of i q message x)) (path_in s) h in
    let reached : candidate_root h (key_id key) message s ≡ root =
    ap (λ i. climb i (word_at s 0) (ots_in s)) same_id
    ∙ (ap (λ q. climb id q (ots_in s)) from_typecode
    ∙ (ap (λ x. climb id leaf x) same_ots
    ∙ root-signature h id secret message leaf (path_in s) small (λ k below. part_path (l ++ o ++ t) f h k front each below))) in
    let below : word_at s 0 < 2 ^ h = omega arith in
    no_fault height key message s (key_height-public_key height id secret) long ots type below (reached ∙ sym same_root)
