use Rattle.std.proofs.Common.{◌≡◌, ℕ, ◌+◌, ◌-◌, ◌*◌, ◌^◌, ◌<◌, ◌≤◌, List, [], slice_index_or, sym, ◌∙◌, ap, arith}
use Rattle.lms_level.specs.Ots.{public_value}
use Rattle.lms_level.specs.Signature.{levels_of}
use Rattle.lms_level.specs.Tree.{inner_node, leaf_node, tree_node}
use Rattle.lms_level.proofs.TreeLemmas.{node-inner, node-leaf}
use Rattle.lms_tree.proofs.tree.node_of.Goals as goal

-- the node over the two that the list has already
pub returns-then-r-count : goal.returns-then-r-count
returns-then-r-count c =
    let a = c.args in
    let h : ℕ = levels_of a.height in
    let r : ℕ = a.r in
    let T : ℕ → List ℕ = tree_node h a.id.now a.secret.now in
    let xs : List (List ℕ) = a.nodes.now in
    let inv = c.requires.holds in
    let below : r < 2 ^ h = omega (arith, c.if-r-count.true, c.leaf_count-count.ensures) in
    let left : slice_index_or xs (2 * r) [] ≡ T (2 * r) = inv.holds (2 * r) (omega (arith, c.requires.node)) (omega (arith, below)) in
    let right : slice_index_or xs (2 * r + 1) [] ≡ T (2 * r + 1) = inv.holds (2 * r + 1) (omega arith) (omega (arith, below)) in
    c.inner_node.ensures
    ∙ (ap (λ n. inner_node a.id.now r n (slice_index_or xs (2 * r + 1) [])) left
    ∙ (ap (λ n. inner_node a.id.now r (T (2 * r)) n) right
    ∙ sym (node-inner h a.id.now a.secret.now r c.requires.node below)))

-- the node over its leaf
pub returns-else-r-count : goal.returns-else-r-count
returns-else-r-count c =
    let a = c.args in
    let h : ℕ = levels_of a.height in
    let above : 2 ^ h ≤ a.r = omega (arith, c.if-r-count.false, c.leaf_count-count.ensures) in
    c.leaf_node.ensures
    ∙ (ap (λ v. leaf_node a.id.now a.r v) (c.ots_public.ensures ∙ ap (λ k. public_value a.id.now (a.r - k) a.secret.now) c.leaf_count-count.ensures)
    ∙ sym (node-leaf h a.id.now a.secret.now a.r above))
