use Rattle.std.proofs.Common.{None, Some, ap, sym, ◌∙◌}
use Rattle.std.specs.List.{list_any}
use Rattle.std.specs.Option.{option_map}
use Rattle.std.specs.Prelude.{bytes_eq}
use Rattle.pbft_model.specs.Core.{pre_prepare_at}
use Rattle.pbft_model.specs.Setup.{setup_of}
use Rattle.replica_core.specs.Replicas.{KeptReplica}
use Rattle.replica_core.specs.declared.duties.Duty.TheVariants as duties
use Rattle.replica_core.proofs.Causes.{asked_one, known_one, lacking_one, nothing_lacks, proposal}
use Rattle.replica_core.proofs.Owed.{none_here}
use Rattle.replica_core.proofs.kept.Core.to_fetch.Goals as goal

pub returns-in_err-digest : goal.returns-in_err-digest
returns-in_err-digest c =
    none_here (setup_of c.args.self.now.config) c.args.self.now.me c.args.self.now.core _ _ (ap (option_map (λ digest. duties.FetchRequest digest)) c.from_residual.ensures)
    (nothing_lacks (setup_of c.args.self.now.config) c.args.self.now.me c.args.self.now.core (pre_prepare_at (setup_of c.args.self.now.config) c.args.self.now.core c.args.self.now.core.view c.args.number.0)
    (proposal _ _ _ c.self.invariant c.args.self.now c.view.result.0 c.args.number.0 None c.self.view_is c.view.ensures (sym c.in_err-digest.was ∙ c.pre_prepare.ensures)))

pub returns-then-is_known : goal.returns-then-is_known
returns-then-is_known c =
    known_one (setup_of c.args.self.now.config) c.args.self.now.me c.args.self.now.core (pre_prepare_at (setup_of c.args.self.now.config) c.args.self.now.core c.args.self.now.core.view c.args.number.0) c.in_ok-digest.digest
    (proposal _ _ _ c.self.invariant c.args.self.now c.view.result.0 c.args.number.0 (Some c.in_ok-digest.digest) c.self.view_is c.view.ensures (sym c.in_ok-digest.was ∙ c.pre_prepare.ensures)) (sym c.if-is_known.ensures)

pub returns-then-has_asked_request : goal.returns-then-has_asked_request
returns-then-has_asked_request c =
    asked_one (setup_of c.args.self.now.config) c.args.self.now.me c.args.self.now.core (pre_prepare_at (setup_of c.args.self.now.config) c.args.self.now.core c.args.self.now.core.view c.args.number.0) c.in_ok-digest.digest
    (proposal _ _ _ c.self.invariant c.args.self.now c.view.result.0 c.args.number.0 (Some c.in_ok-digest.digest) c.self.view_is c.view.ensures (sym c.in_ok-digest.was ∙ c.pre_prepare.ensures))
    (ap (λ (k : KeptReplica). list_any (λ d. bytes_eq d c.in_ok-digest.digest.0) k.core.asked_requests) (sym c.self.view_is) ∙ sym c.if-has_asked_request.ensures)

pub returns : goal.returns
returns c =
    lacking_one (setup_of c.args.self.now.config) c.args.self.now.me c.args.self.now.core (pre_prepare_at (setup_of c.args.self.now.config) c.args.self.now.core c.args.self.now.core.view c.args.number.0) c.in_ok-digest.digest
    (proposal _ _ _ c.self.invariant c.args.self.now c.view.result.0 c.args.number.0 (Some c.in_ok-digest.digest) c.self.view_is c.view.ensures (sym c.in_ok-digest.was ∙ c.pre_prepare.ensures)) (sym c.if-is_known.ensures)
    (ap (λ (k : KeptReplica). list_any (λ d. bytes_eq d c.in_ok-digest.digest.0) k.core.asked_requests) (sym c.self.view_is) ∙ sym c.if-has_asked_request.ensures)
