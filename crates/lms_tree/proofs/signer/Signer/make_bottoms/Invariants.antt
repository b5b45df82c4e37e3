use Rattle.std.proofs.Common.{◌≡◌}
use Rattle.lms_tree.proofs.signer.Signer.make_bottoms.Given as goal

abbrev pub invariant-used : goal.invariant-used
invariant-used l = l.self ≡ l.fn.self
