-- Internal: a tree as one list.
use Rattle.std.specs.Prelude.{◌≡◌, ℕ, ◌*◌, ◌^◌, ◌<◌, List, [], length, slice_index_or}
use Rattle.lms_level.specs.Tree.{tree_node}

-- the list holds node r of the tree at index r
pub record IsTree (height : ℕ) (id secret : List ℕ) (nodes : List (List ℕ)) : Type 0 where
  pub long : length nodes ≡ 2 * 2 ^ height
  pub holds : (r : ℕ) → 0 < r → r < 2 * 2 ^ height → slice_index_or nodes r [] ≡ tree_node height id secret r
