use Rattle.std.proofs.Common.{◌≡◌, ◌≢◌, ℕ, ◌+◌, ◌-◌, ◌*◌, ◌^◌, ◌<◌, ◌≤◌, List, [], inl, inr, length, slice_index_or, slice_set, subst, sym, ◌∙◌, ap, arith, pow_pos}
use Rattle.std.proofs.lemmas.Bool.{cases_lt}
use Rattle.std.proofs.lemmas.List.{get_or-set_other, get_or-set_same, length-set}
use Rattle.lms_level.specs.Ots.{public_value}
use Rattle.lms_level.specs.Signature.{levels_of}
use Rattle.lms_level.specs.Tree.{leaf_node, tree_node}
use Rattle.lms_level.proofs.TreeLemmas.{node-leaf}
use Rattle.lms_tree.proofs.tree.make_nodes.Goals as goal

pub leaves-preserved : goal.leaves-preserved
leaves-preserved c =
    let a = c.args in
    let h : ℕ = levels_of a.height in
    let T : ℕ → List ℕ = tree_node h a.id.now a.secret.now in
    let xs : List (List ℕ) = c.leaves.nodes.items in
    let inv = c.leaves.invariant in
    let l = c.leaves.l in
    let at = a.r - 7 + l in
    let few : l < 8 = c.leaves-test.true in
    let count = c.leaf_count-count.ensures in
    let leaves : 2 ^ h + 7 ≤ a.r = omega (arith, c.if-r-count.false, count) in
    let fits = c.requires.holds.high in
    let within : at < length xs = omega (arith, inv.long) in
    let leaf : c.leaf_node.result ≡ T at =
    c.leaf_node.ensures
    ∙ (ap (λ v. leaf_node a.id.now at v) (c.ots_publics-values.ensures l few ∙ ap (λ q. public_value a.id.now q a.secret.now) (omega (arith, count)))
    ∙ sym (node-leaf h a.id.now a.secret.now at (omega arith))) in
    record {
      long = length-set xs at c.leaf_node.result ∙ inv.long;
      behind = λ k low high.
          let other : k ≢ at = omega arith in
          get_or-set_other xs at k c.leaf_node.result [] other ∙ inv.behind k low high;
      now = λ k low high. elim (cases_lt k at) [
        | inl before ↦
            let other : k ≢ at = omega arith in
            get_or-set_other xs at k c.leaf_node.result [] other ∙ inv.now k low before
        | inr here ↦
            let same : at ≡ k = omega arith in
            subst (λ i. slice_index_or (slice_set xs at c.leaf_node.result) i [] ≡ T i) same (get_or-set_same xs at c.leaf_node.result [] within ∙ leaf)
      ];
    }

pub returns : goal.returns
returns c =
    let a = c.args in
    let h : ℕ = levels_of a.height in
    let inv = c.leaves.invariant in
    let over = c.leaves-test.false in
    let within = c.leaves.auto.l-end in
    let done : c.leaves.l ≡ 8 = omega arith in
    let leaves : 2 ^ h + 7 ≤ a.r = omega (arith, c.if-r-count.false, c.leaf_count-count.ensures) in
    let some : 0 < 2 ^ h = pow_pos h in
    record {
      made = omega arith;
      holds = record {
        low = omega arith;
        high = omega (arith, c.requires.holds.high);
        long = inv.long;
        holds = λ k low high. elim (cases_lt a.r k) [
          | inl behind ↦ inv.behind k behind high
          | inr now ↦ inv.now k low (omega arith)
        ];
      };
    }
