use Rattle.std.proofs.Common.{◌≡◌, ℕ, ◌+◌, ◌*◌, ◌^◌, ◌<◌, ◌≤◌, [], length, slice_index_or}
use Rattle.lms_level.specs.Signature.{levels_of}
use Rattle.lms_level.specs.Tree.{tree_node}
use Rattle.lms_tree.proofs.tree.make_nodes.Given as goal

abbrev pub invariant-leaves : goal.invariant-leaves
invariant-leaves a = record {
  long : length a.nodes.items ≡ 2 * 2 ^ levels_of a.fn.height;
  behind : (k : ℕ) → a.r < k → k < 2 * 2 ^ levels_of a.fn.height → slice_index_or a.nodes.items k [] ≡ tree_node (levels_of a.fn.height) a.id a.secret k;
  now : (k : ℕ) → a.first ≤ k → k < a.first + a.l → slice_index_or a.nodes.items k [] ≡ tree_node (levels_of a.fn.height) a.id a.secret k;
}
