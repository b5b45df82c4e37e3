use Rattle.std.proofs.Common.{ℕ, ◌<◌, subst, sym, ◌∙◌}
use Rattle.pbft_model.specs.Setup.{setup_of}
use Rattle.replica_core.proofs.Arrivals.{is_over, none_stable}
use Rattle.replica_core.proofs.Owed.{none_here}
use Rattle.replica_core.proofs.kept.Core.due_install.Goals as goal

pub returns-in_err-digest : goal.returns-in_err-digest
returns-in_err-digest c =
    none_here (setup_of c.args.self.now.config) c.args.self.now.me c.args.self.now.core _ _ c.from_residual-in_err-digest.ensures
    (none_stable _ _ _ c.self.invariant c.args.self.now c.args.message.now.message c.in-Snapshot.snapshot c.stable.result c.self.view_is c.requires (sym c.body.ensures.value ∙ c.in-Snapshot.is) (subst (λ (n : ℕ). n < c.in-Snapshot.snapshot.number.0) c.executed.ensures (is_over c.in-Snapshot.snapshot.number.0 c.executed.result.0 c.if-le.ensures)) c.stable.ensures.exact c.in_err-digest.was)
