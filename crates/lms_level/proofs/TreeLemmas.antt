-- The nodes of a tree by RFC 8554's two cases, and the path law: a leaf's node and its path lead to
-- the root.
use Rattle.std.proofs.Common.{◌≡◌, ℕ, zero, suc, ◌+◌, ◌-◌, ◌*◌, ◌/◌, ◌%◌, ◌^◌, ◌<◌, ◌≤◌, inl, inr, List, length, refl, sym, ◌∙◌, ap, arith, nat_le, nat_eq, add-one, pow-suc, mul-le-mul_right}
use Rattle.std.proofs.lemmas.Bool.{cases_lt, cond-false, cond-true, eq-eqb, le-leb, lt-leb, ne_eqb}
use Rattle.std.proofs.Math.Nat.{div-div-eq-div-mul, div-le_self, pow-le-pow_right}
use Rattle.std.proofs.lemmas.Nat.{le-div, pow_pos}
use Rattle.lms_ots.specs.Ots.{public_value}
use Rattle.lms_ots.proofs.Chains.{length-tagged_hash}
use Rattle.lms_level.specs.Tree.{root_from_path, inner_node, leaf_node, node_within, parent, path_node, sibling, tree_node}

-- ---- the two cases

within-leaf : (levels height : ℕ) (id secret : List ℕ) (r : ℕ) → 2 ^ height ≤ r
    → node_within levels height id secret r ≡ leaf_node id r (public_value id (r - 2 ^ height) secret)
unfolding node_within
within-leaf zero height id secret r h = refl
within-leaf (suc levels) height id secret r h = cond-true (nat_le (2 ^ height) r) _ _ (le-leb (2 ^ height) r h)

within-inner : (levels height : ℕ) (id secret : List ℕ) (r : ℕ) → r < 2 ^ height
    → node_within (suc levels) height id secret r
    ≡ inner_node id r (node_within levels height id secret (2 * r)) (node_within levels height id secret (2 * r + 1))
unfolding node_within
within-inner levels height id secret r h = cond-false (nat_le (2 ^ height) r) _ _ (lt-leb (2 ^ height) r h)

-- more levels than reach the leaves give the same node
within-more : (levels height : ℕ) (id secret : List ℕ) (r : ℕ) → 2 ^ height ≤ r * 2 ^ levels
    → node_within (suc levels) height id secret r ≡ node_within levels height id secret r
within-more zero height id secret r h =
    let low : 2 ^ height ≤ r = omega arith in
    within-leaf 1 height id secret r low ∙ sym (within-leaf 0 height id secret r low)
within-more (suc levels) height id secret r h =
    let twice : 2 ^ suc levels ≡ 2 ^ levels * 2 = pow-suc 2 levels in
    let product : r * 2 ^ suc levels ≡ 2 * r * 2 ^ levels = ap (λ p. r * p) twice ∙ omega arith in
    let left : 2 ^ height ≤ 2 * r * 2 ^ levels = omega arith in
    let right : 2 ^ height ≤ (2 * r + 1) * 2 ^ levels = omega arith in
    elim (cases_lt r (2 ^ height)) [
      | inl inner ↦
          within-inner (suc levels) height id secret r inner
          ∙ (ap (λ t. inner_node id r t (node_within (suc levels) height id secret (2 * r + 1))) (within-more levels height id secret (2 * r) left)
          ∙ (ap (λ t. inner_node id r (node_within levels height id secret (2 * r)) t) (within-more levels height id secret (2 * r + 1) right)
          ∙ sym (within-inner levels height id secret r inner)))
      | inr leaf ↦ within-leaf (suc (suc levels)) height id secret r leaf ∙ sym (within-leaf (suc levels) height id secret r leaf)
    ]

length-within : (levels height : ℕ) (id secret : List ℕ) (r : ℕ) → length (node_within levels height id secret r) ≡ 32
unfolding node_within
length-within zero height id secret r = length-tagged_hash id r _ _
length-within (suc levels) height id secret r =
    elim (cases_lt r (2 ^ height)) [
      | inl inner ↦ ap length (within-inner levels height id secret r inner) ∙ length-tagged_hash id r _ _
      | inr leaf ↦ ap length (within-leaf (suc levels) height id secret r leaf) ∙ length-tagged_hash id r _ _
    ]

-- each node is a hash
pub length-tree_node : (height : ℕ) (id secret : List ℕ) (r : ℕ) → length (tree_node height id secret r) ≡ 32
unfolding tree_node
length-tree_node height id secret r = length-within height height id secret r

-- T[r] over a leaf (5.3)
pub node-leaf : (height : ℕ) (id secret : List ℕ) (r : ℕ) → 2 ^ height ≤ r
    → tree_node height id secret r ≡ leaf_node id r (public_value id (r - 2 ^ height) secret)
unfolding tree_node
node-leaf height id secret r h = within-leaf height height id secret r h

-- T[r] over two nodes (5.3)
pub node-inner : (height : ℕ) (id secret : List ℕ) (r : ℕ) → 0 < r → r < 2 ^ height
    → tree_node height id secret r ≡ inner_node id r (tree_node height id secret (2 * r)) (tree_node height id secret (2 * r + 1))
unfolding tree_node
node-inner zero id secret r low high = absurd (omega arith)
node-inner (suc height) id secret r low high =
    let twice : 2 ^ suc height ≡ 2 ^ height * 2 = pow-suc 2 height in
    let one : 1 * 2 ^ height ≤ r * 2 ^ height = mul-le-mul_right (2 ^ height) low in
    let left : 2 ^ suc height ≤ 2 * r * 2 ^ height = omega arith in
    let right : 2 ^ suc height ≤ (2 * r + 1) * 2 ^ height = omega arith in
    within-inner height (suc height) id secret r high
    ∙ (ap (λ t. inner_node id r t (node_within height (suc height) id secret (2 * r + 1))) (sym (within-more height (suc height) id secret (2 * r) left))
    ∙ ap (λ t. inner_node id r (node_within (suc height) (suc height) id secret (2 * r)) t) (sym (within-more height (suc height) id secret (2 * r + 1) right)))

-- ---- the path law

-- a node, its sibling and the node above them
pub parent-tree : (height : ℕ) (id secret : List ℕ) (n : ℕ) → 2 ≤ n → n < 2 * 2 ^ height
    → parent id n (tree_node height id secret n) (tree_node height id secret (sibling n)) ≡ tree_node height id secret (n / 2)
parent-tree height id secret n low high =
    let T : ℕ → List ℕ = tree_node height id secret in
    let above : T (n / 2) ≡ inner_node id (n / 2) (T (2 * (n / 2))) (T (2 * (n / 2) + 1)) =
    node-inner height id secret (n / 2) (omega arith) (omega arith) in
    elim (cases_lt (n % 2) 1) [
      | inl even ↦
          let here : n ≡ 2 * (n / 2) = omega arith in
          let sibling_node : sibling n ≡ 2 * (n / 2) + 1 = omega arith in
          cond-true (nat_eq (n % 2) 0) _ _ (eq-eqb (n % 2) 0 (omega arith))
          ∙ (ap (λ k. inner_node id (n / 2) (T k) (T (sibling n))) here
          ∙ (ap (λ k. inner_node id (n / 2) (T (2 * (n / 2))) (T k)) sibling_node ∙ sym above))
      | inr odd ↦
          let here : n ≡ 2 * (n / 2) + 1 = omega arith in
          let sibling_node : sibling n ≡ 2 * (n / 2) = omega arith in
          cond-false (nat_eq (n % 2) 0) _ _ (ne_eqb (n % 2) 0 (λ e. omega arith))
          ∙ (ap (λ k. inner_node id (n / 2) (T (sibling n)) (T k)) here
          ∙ (ap (λ k. inner_node id (n / 2) (T k) (T (2 * (n / 2) + 1))) sibling_node ∙ sym above))
    ]

pub root_from_path-none : (id : List ℕ) (r : ℕ) (value : List ℕ) (path : ℕ → List ℕ) → root_from_path id r value path 0 ≡ value
unfolding root_from_path
root_from_path-none id r value path = refl

pub root_from_path-more : (id : List ℕ) (r i : ℕ) (value : List ℕ) (path : ℕ → List ℕ)
    → root_from_path id r value path (i + 1) ≡ parent id (r / 2 ^ i) (root_from_path id r value path i) (path i)
unfolding root_from_path
root_from_path-more id r i value path = ap (root_from_path id r value path) (add-one i)

-- one level more halves the node's number
pub halved : (r i : ℕ) → r / 2 ^ (i + 1) ≡ r / 2 ^ i / 2
halved r i =
    ap (λ k. r / 2 ^ k) (add-one i) ∙ (ap (λ k. r / k) (pow-suc 2 i) ∙ sym (div-div-eq-div-mul r (2 ^ i) 2))

-- the nodes above a leaf's, below the root
pub two-above : (height r i : ℕ) → 2 ^ height ≤ r → i < height → 2 ≤ r / 2 ^ i
two-above height r i low within =
    let power : 2 ^ suc i ≤ 2 ^ height = pow-le-pow_right (omega arith) within in
    let twice : 2 ^ suc i ≡ 2 ^ i * 2 = pow-suc 2 i in
    le-div 2 r (2 ^ i) (pow_pos i) (omega arith)

-- the path's nodes are the tree's
pub sibling-in_tree : (height r i : ℕ) → 2 ^ height ≤ r → r < 2 * 2 ^ height → i < height
    → (0 < sibling (r / 2 ^ i)) × (sibling (r / 2 ^ i) < 2 * 2 ^ height)
sibling-in_tree height r i low high within =
    let two : 2 ≤ r / 2 ^ i = two-above height r i low within in
    let small : r / 2 ^ i ≤ r = div-le_self r (2 ^ i) in
    (omega arith, omega arith)

-- the path of node r leads to the nodes above it
pub root_from_path-tree : (height : ℕ) (id secret : List ℕ) (r i : ℕ) (path : ℕ → List ℕ) → 2 ^ height ≤ r → r < 2 * 2 ^ height → i ≤ height
    → ((k : ℕ) → k < i → path k ≡ path_node height id secret r k)
    → root_from_path id r (tree_node height id secret r) path i ≡ tree_node height id secret (r / 2 ^ i)
unfolding root_from_path
root_from_path-tree height id secret r zero path low high within each = ap (tree_node height id secret) (omega arith)
root_from_path-tree height id secret r (suc i) path low high within each =
    let T : ℕ → List ℕ = tree_node height id secret in
    let n : ℕ = r / 2 ^ i in
    let below : root_from_path id r (T r) path i ≡ T n =
    root_from_path-tree height id secret r i path low high (omega arith) (λ k h. each k (omega arith)) in
    let twice : 2 ^ suc i ≡ 2 ^ i * 2 = pow-suc 2 i in
    let two : 2 ≤ n = two-above height r i low within in
    let small : n < 2 * 2 ^ height = omega (arith, div-le_self r (2 ^ i)) in
    ap (λ t. parent id n t (path i)) below
    ∙ (ap (λ t. parent id n (T n) t) (each i (omega arith))
    ∙ (parent-tree height id secret n two small
    ∙ ap T (sym (ap (λ k. r / k) twice ∙ sym (div-div-eq-div-mul r (2 ^ i) 2)))))
