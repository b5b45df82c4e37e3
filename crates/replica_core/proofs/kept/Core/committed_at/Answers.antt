use Rattle.std.proofs.Common.{true, false, sym, ◌∙◌}
use Rattle.replica_core.proofs.Readings.{committed_from}
use Rattle.replica_core.proofs.kept.Core.committed_at.Goals as goal

pub returns-then-committed : goal.returns-then-committed
returns-then-committed c =
    committed_from _ _ _ c.self.invariant c.args.self.now c.view.result.0 c.args.number.0 _ true c.self.view_is c.view.ensures (sym c.in_ok-digest.was ∙ c.prepared_at.ensures) (sym c.if-committed.true ∙ c.committed.ensures)

pub returns-else-committed : goal.returns-else-committed
returns-else-committed c =
    committed_from _ _ _ c.self.invariant c.args.self.now c.view.result.0 c.args.number.0 _ false c.self.view_is c.view.ensures (sym c.in_ok-digest.was ∙ c.prepared_at.ensures) (sym c.if-committed.false ∙ c.committed.ensures)
