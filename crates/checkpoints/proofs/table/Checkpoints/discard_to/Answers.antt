use Rattle.std.proofs.Common.{rules}
use Rattle.checkpoints.proofs.Discarding.{discarded_seen, kept_after}
use Rattle.checkpoints.proofs.table.Checkpoints.discard_to.Goals as goal

pub invariant_of-self : goal.invariant_of-self
invariant_of-self c =
    kept_after c.self.inside.config.value c.self.inside.low.0 c.args.number.0 c.self.inside.ballots c.drop_below.new.map c.self.inside.greatest c.unless_below-self-inside.result c.self.invariant (search rules) c.drop_below.ensures c.unless_below-self-inside.ensures

pub returns-then-gt : goal.returns-then-gt
returns-then-gt c =
    discarded_seen c.self.inside.config.value c.self.inside.low.0 c.args.number.0 c.self.inside.ballots c.drop_below.new.map c.self.inside.snapshots c.drop_below-then-gt.new.map c.self.inside.greatest c.args.self.now c.self.invariant c.self.view_is
    (search rules) c.drop_below.ensures c.drop_below-then-gt.ensures
