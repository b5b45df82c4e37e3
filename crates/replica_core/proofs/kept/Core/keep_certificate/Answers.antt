use Rattle.std.proofs.Common.{ap, not, sym, ◌∙◌}
use Rattle.replica_core.proofs.Leaving.{its, keeps, keeps_nothing, still_one, there_is}
use Rattle.replica_stores.proofs.Results.{given}
use Rattle.replica_core.proofs.kept.Core.keep_certificate.Goals as goal

pub keep-requires : goal.keep-requires
keep-requires c =
    there_is _ _ _ c.self.invariant _ _
    (its _ _ _ c.self.invariant c.args.self.now c.view.result.0 c.args.number.0 c.prepared_at.result c.in-Some.certificate c.self.view_is c.prepared_at.ensures (c.is_none.ensures ∙ ap not c.if-is_none.false) c.view.ensures
    (sym c.in-Some.is ∙ given _ c.certificate.result c.in_ok-certificate.certificate c.in_ok-certificate.ensures.given c.certificate.ensures.certificate))

pub invariant_of-self : goal.invariant_of-self
invariant_of-self c =
    still_one _ _ _ c.self.invariant _ _ _
    (its _ _ _ c.self.invariant c.args.self.now c.view.result.0 c.args.number.0 c.prepared_at.result c.in-Some.certificate c.self.view_is c.prepared_at.ensures (c.is_none.ensures ∙ ap not c.if-is_none.false) c.view.ensures
    (sym c.in-Some.is ∙ given _ c.certificate.result c.in_ok-certificate.certificate c.in_ok-certificate.ensures.given c.certificate.ensures.certificate)) c.in_ok-keep.ensures.kept

pub returns-in_ok-keep-clause-kept : goal.returns-in_ok-keep-clause-kept
returns-in_ok-keep-clause-kept c =
    keeps _ _ _ c.self.invariant c.args.self.now _ _ _ c.self.view_is
    (its _ _ _ c.self.invariant c.args.self.now c.view.result.0 c.args.number.0 c.prepared_at.result c.in-Some.certificate c.self.view_is c.prepared_at.ensures (c.is_none.ensures ∙ ap not c.if-is_none.false) c.view.ensures
    (sym c.in-Some.is ∙ given _ c.certificate.result c.in_ok-certificate.certificate c.in_ok-certificate.ensures.given c.certificate.ensures.certificate)) c.in_ok-keep.ensures.kept

pub returns-in_default-clause-kept : goal.returns-in_default-clause-kept
returns-in_default-clause-kept c =
    keeps_nothing _ _ _ c.self.invariant c.args.self.now c.view.result.0 c.args.number.0 c.prepared_at.result c.self.view_is c.prepared_at.ensures (c.is_none.ensures ∙ ap not c.if-is_none.false) c.view.ensures
    (sym c.in_default.is ∙ given _ c.certificate.result c.in_ok-certificate.certificate c.in_ok-certificate.ensures.given c.certificate.ensures.certificate)
