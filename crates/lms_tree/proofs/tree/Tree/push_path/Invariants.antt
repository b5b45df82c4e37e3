use Rattle.std.proofs.Common.{◌≡◌, ◌++◌}
use Rattle.lms_level.specs.Ots.{concatenation}
use Rattle.lms_level.specs.Signature.{levels_of}
use Rattle.lms_level.specs.Tree.{path_node}
use Rattle.lms_tree.proofs.tree.Tree.push_path.Given as goal

abbrev pub invariant-path : goal.invariant-path
invariant-path l = l.out.items ≡ l.fn.out.items ++ concatenation (path_node (levels_of l.fn.self.height) l.fn.self.id l.fn.self.secret l.first) l.i
