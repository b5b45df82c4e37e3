-- Internal: a signer's trees.
use Rattle.std.specs.Prelude.{◌≡◌, ℕ, ◌*◌, ◌^◌, ◌<◌, ◌≤◌, List, [], length, slice_index_or}
use Rattle.lms_level.specs.Tree.{tree_node}
use Rattle.lms_level.specs.declared.height.Height.{Height}
use Rattle.lms_tree.specs.Levels.{bottom_id, bottom_secret}

-- a tree's height, I and SEED, which determine its nodes
pub record TreeState : Type 0 where
  pub height : Height
  pub id : List ℕ
  pub secret : List ℕ

-- a tree some of whose nodes are missing, those from 1 on, as many as `missing` says
pub record GrowingState : Type 0 where
  pub height : Height
  pub id : List ℕ
  pub secret : List ℕ
  pub missing : ℕ

-- the list holds each node of the tree from node `first` on, node r at index r
pub record HoldsNodesFrom (first height : ℕ) (id secret : List ℕ) (nodes : List (List ℕ)) : Type 0 where
  pub low : 0 < first
  pub high : first ≤ 2 * 2 ^ height
  pub long : length nodes ≡ 2 * 2 ^ height
  pub holds : (r : ℕ) → first ≤ r → r < 2 * 2 ^ height → slice_index_or nodes r [] ≡ tree_node height id secret r

-- bottom tree t below a top tree
abbrev pub bottom_tree : TreeState → Height → ℕ → TreeState
bottom_tree top bottom t = record {
  height = bottom;
  id = bottom_id top.id top.secret t;
  secret = bottom_secret top.id top.secret t;
}
