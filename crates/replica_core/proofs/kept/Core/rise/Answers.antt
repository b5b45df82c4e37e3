use Rattle.replica_core.proofs.Rising.{risen, still_one}
use Rattle.replica_core.proofs.kept.Core.rise.Goals as goal

pub invariant_of-self : goal.invariant_of-self
invariant_of-self c =
    still_one _ _ _ c.self.invariant c.args.self.now c.args.number.0 c.args.digest c.discard_to.new.self c.discard_to-2.new.self c.discard_to-3.new.self c.forget.new.self c.discard_to-4.new.self c.self.view_is
    c.requires.above c.discard_to.ensures c.discard_to-2.ensures c.discard_to-3.ensures c.forget.ensures c.discard_to-4.ensures c.requires.stable c.requires.reached

pub returns : goal.returns
returns c =
    risen _ _ _ c.self.invariant c.args.self.now c.args.number.0 c.args.digest c.discard_to.new.self c.discard_to-2.new.self c.discard_to-3.new.self c.forget.new.self c.discard_to-4.new.self c.self.view_is
    c.requires.above c.discard_to.ensures c.discard_to-2.ensures c.discard_to-3.ensures c.forget.ensures c.discard_to-4.ensures c.requires.stable
