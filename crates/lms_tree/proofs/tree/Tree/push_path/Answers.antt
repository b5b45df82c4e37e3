use Rattle.std.proofs.Common.{◌≡◌, ℕ, ◌+◌, ◌/◌, ◌^◌, ◌<◌, ◌≤◌, List, [], get_or, ◌++◌, sym, ◌∙◌, ap, arith, subst}
use Rattle.std.proofs.lemmas.List.{append-nil}
use Rattle.lms_level.specs.Ots.{concatenation}
use Rattle.lms_level.proofs.Concatenation.{concatenation-none, joined_push}
use Rattle.lms_level.specs.Signature.{levels_of}
use Rattle.lms_level.specs.Tree.{path_node, sibling, tree_node}
use Rattle.lms_level.proofs.TreeLemmas.{sibling-in_tree, two-above}
use Rattle.lms_tree.specs.Trees.{TreeState}
use Rattle.lms_tree.proofs.tree.Tree.push_path.Goals as goal

pub path-init : goal.path-init
path-init c = sym (ap (λ t. c.args.out.now.items ++ t) (concatenation-none _) ∙ append-nil _)

pub sibling-sibling_node-requires-clause-above : goal.sibling-sibling_node-requires-clause-above
sibling-sibling_node-requires-clause-above c =
    let h : ℕ = levels_of c.self.inside.height in
    let within : c.path.i < h = omega (arith, c.path-test.true, c.levels-i-end.ensures) in
    let two : 2 ≤ (c.leaf_count.result + c.args.leaf) / 2 ^ c.path.i =
    two-above h (c.leaf_count.result + c.args.leaf) c.path.i (omega (arith, c.leaf_count.ensures)) within in
    omega (arith, two)

pub path-preserved : goal.path-preserved
path-preserved c =
    let t = c.self.inside in
    let h : ℕ = levels_of t.height in
    let first : ℕ = c.leaf_count.result + c.args.leaf in
    let n : ℕ = first / 2 ^ c.path.i in
    let small : c.args.leaf < 2 ^ h = subst (λ (s : TreeState). c.args.leaf < 2 ^ levels_of s.height) (sym c.self.view_is) c.requires in
    let within : c.path.i < h = omega (arith, c.path-test.true, c.levels-i-end.ensures) in
    let in_tree = sibling-in_tree h first c.path.i (omega (arith, c.leaf_count.ensures)) (omega (arith, small, c.leaf_count.ensures)) within in
    let g : ℕ → List ℕ = path_node (levels_of c.args.self.now.height) c.args.self.now.id c.args.self.now.secret first in
    let out : List ℕ = c.args.out.now.items in
    let node : c.sibling-sibling_node.result ≡ g c.path.i =
    c.sibling-sibling_node.ensures
    ∙ (ap (λ xs. get_or xs (sibling n) []) c.deref.ensures.value
    ∙ (c.self.invariant.holds (sibling n) in_tree.0 in_tree.1
    ∙ ap (λ (s : TreeState). tree_node (levels_of s.height) s.id s.secret (sibling n)) c.self.view_is)) in
    c.in_ok-extend_from_slice.ensures.items
    ∙ (ap (λ t. t ++ c.sibling-sibling_node.result) c.path.invariant
    ∙ (ap (λ t. out ++ concatenation g c.path.i ++ t) node ∙ joined_push out g c.path.i))

pub returns : goal.returns
returns c =
    let s = c.args.self.now in
    let out : List ℕ = c.args.out.now.items in
    let end : c.path.i ≡ c.levels-i-end.result = omega (arith, c.path-test.false, c.path.auto.i-end) in
    let all : c.path.i ≡ levels_of s.height = end ∙ (c.levels-i-end.ensures ∙ ap (λ (t : TreeState). levels_of t.height) c.self.view_is) in
    let count : c.leaf_count.result ≡ 2 ^ levels_of s.height = c.leaf_count.ensures ∙ ap (λ (t : TreeState). 2 ^ levels_of t.height) c.self.view_is in
    c.path.invariant
    ∙ (ap (λ n. out ++ concatenation (path_node (levels_of s.height) s.id s.secret (c.leaf_count.result + c.args.leaf)) n) all
    ∙ ap (λ k. out ++ concatenation (path_node (levels_of s.height) s.id s.secret (k + c.args.leaf)) (levels_of s.height)) count)
