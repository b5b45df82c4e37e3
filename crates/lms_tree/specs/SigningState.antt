-- Statement: what a contract sees of a signer.
use Rattle.std.specs.Prelude.{ℕ, ◌+◌, ◌^◌, List, Option, Some, None}
use Rattle.lms_level.specs.Signature.{levels_of}
use Rattle.lms_level.specs.declared.height.Height.{Height}

pub record SigningState : Type 0 where
  -- the height of the one tree, or of the top tree
  pub height : Height
  -- the height of the bottom trees, where there are two levels
  pub bottom : Option Height
  -- I, the identifier of that tree
  pub id : List ℕ
  -- SEED, from which every one-time key comes
  pub secret : List ℕ
  -- the leaf that signs next: with two levels the leaves of all bottom trees are counted, one tree after the other
  pub next_leaf : ℕ

-- how many signatures a key gives, by the heights of its trees
abbrev pub total_of : Height → Option Height → ℕ
total_of height None = 2 ^ levels_of height
total_of top (Some bottom) = 2 ^ (levels_of top + levels_of bottom)
