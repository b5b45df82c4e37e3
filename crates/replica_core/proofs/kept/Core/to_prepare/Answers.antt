use Rattle.std.proofs.Common.{None, Some, ap, sym, ◌∙◌}
use Rattle.std.specs.Option.{option_map}
use Rattle.pbft_model.specs.Duties.{among}
use Rattle.pbft_model.specs.Setup.{setup_of}
use Rattle.replica_core.specs.Replicas.{KeptReplica}
use Rattle.replica_core.specs.declared.duties.Duty.TheVariants as duties
use Rattle.replica_core.proofs.Causes.{no_prepare, prepare_known, prepare_unknown, proposal}
use Rattle.replica_core.proofs.Owed.{none_here}
use Rattle.replica_core.proofs.kept.Core.to_prepare.Goals as goal

pub returns-in_err-digest : goal.returns-in_err-digest
returns-in_err-digest c =
    none_here (setup_of c.args.self.now.config) c.args.self.now.me c.args.self.now.core _ _ (ap (option_map (λ digest. duties.Prepare c.args.number digest)) c.from_residual.ensures)
    (no_prepare (setup_of c.args.self.now.config) c.args.self.now.me c.args.self.now.core c.args.number.0
    (ap (λ (k : KeptReplica). among k.core.prepared_numbers c.args.number.0) (sym c.self.view_is) ∙ sym c.if-has_prepared.ensures)
    (proposal _ _ _ c.self.invariant c.args.self.now c.view.result.0 c.args.number.0 None c.self.view_is c.view.ensures (sym c.in_err-digest.was ∙ c.pre_prepare.ensures)))

pub returns-then-is_known : goal.returns-then-is_known
returns-then-is_known c =
    prepare_known (setup_of c.args.self.now.config) c.args.self.now.me c.args.self.now.core c.args.number c.in_ok-digest.digest
    (ap (λ (k : KeptReplica). among k.core.prepared_numbers c.args.number.0) (sym c.self.view_is) ∙ sym c.if-has_prepared.ensures)
    (proposal _ _ _ c.self.invariant c.args.self.now c.view.result.0 c.args.number.0 (Some c.in_ok-digest.digest) c.self.view_is c.view.ensures (sym c.in_ok-digest.was ∙ c.pre_prepare.ensures)) (sym c.if-is_known.ensures)

pub returns-else-is_known : goal.returns-else-is_known
returns-else-is_known c =
    prepare_unknown (setup_of c.args.self.now.config) c.args.self.now.me c.args.self.now.core c.args.number.0 c.in_ok-digest.digest
    (ap (λ (k : KeptReplica). among k.core.prepared_numbers c.args.number.0) (sym c.self.view_is) ∙ sym c.if-has_prepared.ensures)
    (proposal _ _ _ c.self.invariant c.args.self.now c.view.result.0 c.args.number.0 (Some c.in_ok-digest.digest) c.self.view_is c.view.ensures (sym c.in_ok-digest.was ∙ c.pre_prepare.ensures)) (sym c.if-is_known.ensures)
