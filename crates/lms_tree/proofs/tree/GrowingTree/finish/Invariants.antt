use Rattle.std.proofs.Common.{◌≡◌}
use Rattle.lms_tree.proofs.tree.GrowingTree.finish.Given as goal

abbrev pub invariant-growing : goal.invariant-growing
invariant-growing l = record {
  height : l.tree.height ≡ l.fn.self.height;
  id : l.tree.id ≡ l.fn.self.id;
  secret : l.tree.secret ≡ l.fn.self.secret;
}

abbrev pub decreases-growing : goal.decreases-growing
decreases-growing l = l.tree.missing
