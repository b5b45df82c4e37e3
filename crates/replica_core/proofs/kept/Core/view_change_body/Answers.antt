use Rattle.std.proofs.Common.{subst, ◌∙◌}
use Rattle.std.specs.Prelude.{IfOk}
use Rattle.host_types.specs.Configuration.{Configuration}
use Rattle.replica_stores.specs.Sealable.{IsSealable}
use Rattle.replica_core.specs.OwnViewChange.{own_view_change}
use Rattle.replica_core.proofs.Reporting.{its_config, made_of, under_one}
use Rattle.replica_stores.proofs.Results.{given, passed}
use Rattle.replica_core.proofs.kept.Core.view_change_body.Goals as goal

pub returns-clause-made : goal.returns-clause-made
returns-clause-made c =
    passed _ c.make.result c.or_out_of_memory-2.result c.or_out_of_memory-2.ensures.given (c.make.ensures.made (own_view_change c.args.self.now.core c.args.view)
    (made_of _ _ _ c.self.invariant c.args.self.now c.self.view_is c.low-low.result c.in_ok-proof.proof c.deref.result.now c.low-low.ensures (given _ c.proof.result c.in_ok-proof.proof c.in_ok-proof.ensures.given c.proof.ensures.proof) (c.deref.ensures.value ∙ c.in_ok-certificates.ensures) c.args.view))

pub returns-clause-sealable : goal.returns-clause-sealable
returns-clause-sealable c = λ short.
    passed _ c.make.result c.or_out_of_memory-2.result c.or_out_of_memory-2.ensures.given (subst (λ (x : Configuration). IfOk c.make.result (IsSealable x))
    (its_config _ _ _ c.self.invariant c.args.self.now c.self.view_is c.low-low.result c.in_ok-proof.proof c.deref.result.now c.low-low.ensures (given _ c.proof.result c.in_ok-proof.proof c.in_ok-proof.ensures.given c.proof.ensures.proof) (c.deref.ensures.value ∙ c.in_ok-certificates.ensures))
    (c.make.ensures.sealable (own_view_change c.args.self.now.core c.args.view)
    (made_of _ _ _ c.self.invariant c.args.self.now c.self.view_is c.low-low.result c.in_ok-proof.proof c.deref.result.now c.low-low.ensures (given _ c.proof.result c.in_ok-proof.proof c.in_ok-proof.ensures.given c.proof.ensures.proof) (c.deref.ensures.value ∙ c.in_ok-certificates.ensures) c.args.view) short
    (under_one _ _ _ c.self.invariant c.args.self.now c.self.view_is c.low-low.result c.in_ok-proof.proof c.deref.result.now c.low-low.ensures (given _ c.proof.result c.in_ok-proof.proof c.in_ok-proof.ensures.given c.proof.ensures.proof) (c.deref.ensures.value ∙ c.in_ok-certificates.ensures))))
