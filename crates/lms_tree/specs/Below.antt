-- Internal: bottom trees and the top tree that signs their keys.
use Rattle.std.specs.Prelude.{◌≡◌, Option, Some}
use Rattle.lms_level.specs.declared.height.Height.{Height}
use Rattle.lms_tree.specs.declared.bottom.Bottom.{Bottom}
use Rattle.lms_tree.specs.declared.bottom.Coming.{Coming}
use Rattle.lms_tree.specs.Levels.{bottom_id, bottom_secret, signed_key}
use Rattle.lms_tree.specs.Trees.{TreeState, bottom_tree}

-- the bottom tree of this height is one below this top tree
pub record IsBelow (top : TreeState) (height : Height) (b : Bottom) : Type 0 where
  pub tree : b.tree ≡ bottom_tree top height b.number
  pub front : b.front.items ≡ signed_key top.height height top.id top.secret b.number

-- the tree under way is to be one below this top tree
pub record IsComing (top : TreeState) (height : Height) (t : Coming) : Type 0 where
  pub of_height : t.tree.height ≡ height
  pub of_id : t.tree.id ≡ bottom_id top.id top.secret t.number
  pub of_secret : t.tree.secret ≡ bottom_secret top.id top.secret t.number

-- the bottom tree that signs and the one that comes next, as far as they are there, are below the top tree
pub record AreBelow (top : TreeState) (bottom : Option Height) (present : Option Bottom) (coming : Option Coming)
    : Type 0 where
  pub each : (height : Height) (b : Bottom) → bottom ≡ Some height → present ≡ Some b → IsBelow top height b
  pub next : (height : Height) (t : Coming) → bottom ≡ Some height → coming ≡ Some t → IsComing top height t
