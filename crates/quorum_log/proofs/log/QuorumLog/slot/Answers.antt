use Rattle.std.proofs.Common.{sym, ◌∙◌}
use Rattle.quorum_log.proofs.Asking.{represents_at, represents_outside}
use Rattle.quorum_log.proofs.log.QuorumLog.slot.Goals as goal

pub returns-in_err-index-clause-represents : goal.returns-in_err-index-clause-represents
returns-in_err-index-clause-represents c =
    represents_outside c.self.inside.config.value c.self.inside.view.0 c.self.inside.floor c.self.inside.window.low.0 c.self.inside.window.numbers.items c.args.view.0 c.args.number.0 c.args.self.now c.from_residual.result
    c.self.invariant c.self.view_is (sym c.index.ensures ∙ c.in_err-index.was) c.from_residual.ensures

pub returns-clause-represents : goal.returns-clause-represents
returns-clause-represents c =
    represents_at c.self.inside.config.value c.self.inside.view.0 c.self.inside.floor c.self.inside.window.low.0 c.self.inside.window.numbers.items c.args.view.0 c.args.number.0 c.in_ok-index.field-0 c.args.self.now _
    c.self.invariant c.self.view_is (sym c.index.ensures ∙ c.in_ok-index.was) c.slot.ensures
