use Rattle.std.proofs.Common.{refl, true, false, sym, ◌∙◌}
use Rattle.replica_core.proofs.Readings.{prepared_from, unproposed}
use Rattle.replica_core.proofs.kept.Core.prepared_at.Goals as goal

pub returns-in_err-digest : goal.returns-in_err-digest
returns-in_err-digest c =
    c.from_residual.ensures
    ∙ unproposed _ _ _ c.self.invariant c.args.self.now c.view.result.0 c.args.number.0 c.self.view_is c.view.ensures (sym c.in_err-digest.was ∙ c.pre_prepare.ensures)

pub returns-then-not-prepared : goal.returns-then-not-prepared
returns-then-not-prepared c =
    prepared_from _ _ _ c.self.invariant c.args.self.now c.view.result.0 c.view-2.result.0 c.args.number.0 c.in_ok-digest.digest false _ c.self.view_is c.view.ensures c.view-2.ensures
    (sym c.in_ok-digest.was ∙ c.pre_prepare.ensures) (sym c.if-not-prepared.true ∙ c.prepared.ensures) refl

pub returns-then-not-is_known : goal.returns-then-not-is_known
returns-then-not-is_known c =
    prepared_from _ _ _ c.self.invariant c.args.self.now c.view.result.0 c.view-2.result.0 c.args.number.0 c.in_ok-digest.digest true false c.self.view_is c.view.ensures c.view-2.ensures
    (sym c.in_ok-digest.was ∙ c.pre_prepare.ensures) (sym c.if-not-prepared.false ∙ c.prepared.ensures) (sym c.if-not-is_known.true ∙ c.is_known.ensures)

pub returns : goal.returns
returns c =
    prepared_from _ _ _ c.self.invariant c.args.self.now c.view.result.0 c.view-2.result.0 c.args.number.0 c.in_ok-digest.digest true true c.self.view_is c.view.ensures c.view-2.ensures
    (sym c.in_ok-digest.was ∙ c.pre_prepare.ensures) (sym c.if-not-prepared.false ∙ c.prepared.ensures) (sym c.if-not-is_known.false ∙ c.is_known.ensures)
